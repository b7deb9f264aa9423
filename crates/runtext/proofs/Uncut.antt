-- No call from the start of a run text raises more events than its log holds: its messages can raise 56, and no call makes them more. Assumes nothing.
use Prim.Native.Nat.{ℕ, ◌*◌, ◌≤◌}
use mathlib.Core.List.{List, [], ◌∷◌}
use mathlib.Core.Path.{◌≡◌, refl}
use native.Mathlib.Omega.{arith}
use Rattle.lists.specs.Lists.{below, total}
use Rattle.lists.proofs.Cases.{pick_case, some_case}
use Rattle.book.specs.declared.VenueOrder.{VenueOrder}
use Rattle.msgs.specs.Rows.{Msgs}
use Rattle.account.specs.Rows.{AgentAccount}
use Rattle.state.specs.declared.KernelState.{KernelState}
use Rattle.rules.specs.Batch.{state_after}
use Rattle.rules.specs.Calls.{Answer, pass}
use Rattle.rules.specs.Conservation.{Call, advances, passes}
use Rattle.rules.specs.FewEvents.{raisable_kind, raisable, msgs_events}
use Rattle.rules.proofs.HowFar.{few-events}
use Rattle.runtake.specs.Take.{Reading, blank_reading, take_order, take_cancel}
use Rattle.runtext.specs.Read.{start_state, read_text}
use Rattle.runtext.specs.Uncut.{Uncut}
use Rattle.runtext.proofs.EachLine.{marks_same, reserved_case, put_in_case, queued_case, Keeps, text_starts}
use Rattle.runtake.specs.declared.Lots.{Lots}

-- ---- what is so between two lines
-- an activation for each account that is opened, and besides them only cancels
record LightBy (ms : Msgs) (account : AgentAccount) : Type 0 where
  msgs : ms.count ≤ 16
  accounts : account.count ≤ 8
  extras : total raisable (below ms) ≤ 3 * account.count

abbrev Light : Msgs → Lots → AgentAccount → Type 0
Light ms lots account = LightBy ms account

blank_light : (words : List ℕ) → LightBy (blank_reading words).msgs (blank_reading words).account
unfolding total
blank_light words = record { msgs = omega arith; accounts = omega arith; extras = omega arith }

-- `o`
order_light : (n : ℕ) (o : VenueOrder) (life : ℕ) (r : Reading) → o.filled ≡ 0 → LightBy r.msgs r.account → Keeps Light (take_order n o life r)
unfolding take_order
order_light n o life r z h =
    let P = Keeps Light in
    pick_case P _ _ _
    (λ _. reserved_case P r.lots o.side o.qty
    (λ _ _. put_in_case P _ _ _ r.account
    (λ account a. queued_case P _ _ r.msgs
    (λ l b. record { msgs = b.room; accounts = a.room; extras = omega (arith, a.one_more, b.sums raisable, h.extras) })
    tt) tt) tt)
    (λ _. tt)

-- `x`
cancel-light : (n eff id : ℕ) (r : Reading) → LightBy r.msgs r.account → Keeps Light (take_cancel n eff id r)
unfolding take_cancel
cancel-light n eff id r h =
    let P = Keeps Light in
    pick_case P _ _ _
    (λ _. queued_case P _ _ _ (λ l b. record { msgs = b.room; accounts = h.accounts; extras = omega (arith, b.sums raisable, marks_same raisable_kind id (λ o life. refl) r.msgs, h.extras) }) tt)
    (λ _. tt)

-- the messages at the start can raise 56 events: 8 activations and 8 cancels
starts_light : (r : Reading) → LightBy r.msgs r.account → msgs_events (start_state r).msgs ≤ 56
unfolding start_state
starts_light r h = omega (arith, h.msgs, h.accounts, h.extras)

text-light : (text words : List ℕ) → msgs_events (read_text text words).script.state.msgs ≤ 56
text-light text words = text_starts Light (λ (s : KernelState). msgs_events s.msgs ≤ 56) starts_light blank_light order_light cancel-light text words

-- ---- no call makes them more
pass-light : (w : ℕ) (s : KernelState) → msgs_events s.msgs ≤ w → msgs_events (pass s).state.msgs ≤ w
unfolding pass
pass-light w s h =
    let P : Answer → Type 0 = λ a. msgs_events a.state.msgs ≤ w in
    pick_case P _ _ _ (λ _. pick_case P _ _ _ (λ _. pick_case P _ _ _ (λ _. some_case P _ _ _ (λ _ _. h) (λ _. h)) (λ _. h)) (λ _. h)) (λ _. h)

calls-light : (w : ℕ) (calls : List Call) (s : KernelState) → msgs_events s.msgs ≤ w → msgs_events (state_after calls s).msgs ≤ w
unfolding state_after
calls-light w [] s h = h
calls-light w (advances c rows log ∷ calls) s h = calls-light w calls _ (let g = (few-events c rows s).lighter in omega arith)
calls-light w (passes ∷ calls) s h = calls-light w calls _ (pass-light w s h)

-- ---- of every text, a bad one included
pub text_uncut : (text words : List ℕ) → Uncut (read_text text words).script.state
text_uncut text words calls c rows =
    let s : KernelState = state_after calls (read_text text words).script.state in
    let w : msgs_events s.msgs ≤ 56 = calls-light 56 calls _ (text-light text words) in
    omega (arith, (few-events c rows s).by_messages)
