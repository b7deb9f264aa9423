-- Every run text starts in a state that has the three properties of conservation, so what is conserved holds of every replay of it. Assumes nothing.
use Rattle.std.specs.Prelude.{None}
use Prim.Native.Nat.{ℕ}
use mathlib.Core.List.{List, [], ◌∷◌, ◌++◌}
use mathlib.Core.Path.{◌≡◌, refl, ap}
use native.Mathlib.Omega.{arith}
use Rattle.lists.specs.Lists.{below, total}
use Rattle.lists.proofs.Cases.{pick_case}
use Rattle.book.specs.Entries.{on_side}
use Rattle.book.specs.declared.Side.{Side}
use Rattle.book.specs.declared.Side.TheVariants.{Buy, Sell}
use Rattle.book.specs.declared.VenueMsg.{VenueMsg}
use Rattle.book.specs.declared.VenueOrder.{VenueOrder}
use Rattle.msgs.specs.Rows.{Msgs}
use Rattle.account.specs.Rows.{AgentAccount}
use Rattle.state.specs.declared.KernelState.{KernelState}
use Rattle.rules.specs.Calls.{Did, refused, stays, halts, ends}
use Rattle.rules.specs.Conservation.{of_side, lots_on, carried_by, carried_on, Each, Conserved, Closed, Call, answer_to, result, After, Claim}
use Rattle.rules.proofs.Conservation.{conservation}
use Rattle.runtake.specs.Take.{Reading, blank_reading, take_order, take_cancel}
use Rattle.runtake.specs.declared.Lots.{Lots}
use Rattle.runtext.specs.Read.{start_state, read_text}
use Rattle.runtext.specs.Start.{GoesOn, GoOn}
use Rattle.runtext.proofs.EachLine.{marks_same, reserved_case, put_in_case, queued_case, Keeps, text_starts}

-- ---- what is so between two lines
-- the lots of each side are those of the orders that the queued activations carry
record CarriedBy (ms : Msgs) (l : Lots) : Type 0 where
  lots : (d : Side) → on_side d l.buy l.sell ≡ total (carried_on d) (below ms)

abbrev Carried : Msgs → Lots → AgentAccount → Type 0
Carried ms l account = CarriedBy ms l

-- before the first line there are no messages and no lots
blank_carried : (words : List ℕ) → CarriedBy (blank_reading words).msgs (blank_reading words).lots
unfolding total on_side
blank_carried words = record { lots = go }
  where
    go : (d : Side) → on_side d (blank_reading words).lots.buy (blank_reading words).lots.sell ≡ total (carried_on d) (below (blank_reading words).msgs)
    go Buy = refl
    go Sell = refl

-- ---- each line keeps it
-- of an order with no lots filled all remain
lots-whole : (d : Side) (o : VenueOrder) → o.filled ≡ 0 → lots_on d o ≡ of_side d o.side o.qty
lots-whole d o z = ap (of_side d o.side) (omega arith)

-- `o`: the activation that is queued carries the lots that are reserved
order_carried : (n : ℕ) (o : VenueOrder) (life : ℕ) (r : Reading) → o.filled ≡ 0 → CarriedBy r.msgs r.lots → Keeps Carried (take_order n o life r)
unfolding take_order
order_carried n o life r z h =
    let P = Keeps Carried in
    pick_case P _ _ _
    (λ _. reserved_case P r.lots o.side o.qty
    (λ m grown. put_in_case P _ _ _ r.account
    (λ _ _. queued_case P _ _ r.msgs
    (λ l a. record { lots = λ d. omega (arith, grown d, lots-whole d o z, a.sums (carried_on d), h.lots d) })
    tt) tt) tt)
    (λ _. tt)

-- `x`: a cancel carries no lots
cancel_carried : (n eff id : ℕ) (r : Reading) → CarriedBy r.msgs r.lots → Keeps Carried (take_cancel n eff id r)
unfolding take_cancel
cancel_carried n eff id r h =
    let P = Keeps Carried in
    pick_case P _ _ _
    (λ _. queued_case P _ _ _ (λ l a. record { lots = λ d. omega (arith, a.sums (carried_on d), marks_same (carried_by d) id (λ o life. refl) r.msgs, h.lots d) }) tt)
    (λ _. tt)

-- ---- the state at the start
-- it has no booked orders, no deliveries and both positions 0
state_conserved : (r : Reading) → CarriedBy r.msgs r.lots → Conserved (start_state r)
unfolding start_state Each total
state_conserved r h = record { lots = λ d. omega (arith, h.lots d); open_orders = tt; positions = refl }

-- ---- a text that is run starts in a state with the three properties
pub start_conserved : (text words : List ℕ) → (read_text text words).fault ≡ None → Conserved (read_text text words).script.state
start_conserved text words good = text_starts Carried Conserved state_conserved blank_carried order_carried cancel_carried text words

-- so what is claimed of every list of calls is so of every replay of it
pub replay_conserved : (text words : List ℕ) → (read_text text words).fault ≡ None → (calls : List Call) → Claim calls (read_text text words).script.state
replay_conserved text words good calls = conservation (read_text text words).script.state (start_conserved text words good) calls

-- ---- where a replay reaches end of data
-- what is claimed of a call that goes on holds the claim of those behind it
claim_rest : (d : Did) (s : KernelState) (cs : List Call) (Rest : Type 0) → GoesOn d → After d s cs Rest → Rest
claim_rest (refused r) s cs Rest g h = h.1
claim_rest stays s cs Rest g h = h.1
claim_rest (halts r) s cs Rest g h = absurd g
claim_rest (ends dropped) s cs Rest g h = absurd g

-- what is claimed of calls that go on, and of one behind them that reaches end of data
claim_ends : (cs : List Call) (s t : KernelState) → GoOn cs s t → (c : Call) (dropped : List VenueMsg) → (answer_to c t).did ≡ ends dropped
    → Claim (cs ++ c ∷ []) s → Closed dropped (result c t).state
unfolding Claim GoOn
claim_ends [] s t g c dropped e h = (rw (g, e) at h).0
claim_ends (b ∷ cs) s t g c dropped e h = claim_ends cs (result b s).state t g.1 c dropped e (claim_rest (answer_to b s).did _ _ _ g.0 h)

-- a replay that reaches end of data: both positions are equal there, and each side's live lots are those of booked orders and of dropped activations
pub replay_ends : (text words : List ℕ) → (read_text text words).fault ≡ None
    → (cs : List Call) (t : KernelState) → GoOn cs (read_text text words).script.state t
    → (c : Call) (dropped : List VenueMsg) → (answer_to c t).did ≡ ends dropped → Closed dropped (result c t).state
replay_ends text words good cs t g c dropped e = claim_ends cs _ t g c dropped e (replay_conserved text words good (cs ++ c ∷ []))
