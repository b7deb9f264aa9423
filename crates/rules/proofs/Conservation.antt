-- Demand 3: what is conserved, over every list of calls. Assumes nothing beyond the three properties.
use Prim.Native.Nat.{ℕ, ◌+◌}
use mathlib.Core.Bool.{Bool, true, false, ◌&&◌, false≢true}
use mathlib.Core.Path.{◌≡◌, refl, sym, subst}
use mathlib.Core.List.{List, [], ◌∷◌}
use native.Mathlib.Omega.{arith}
use lib.Dec.{leb}
use borrow.Author.Tests.{leb-true}
use Rattle.numbers.specs.Choice.{pick}
use Rattle.numbers.specs.Words.{fitting}
use Rattle.lists.specs.Lists.{total}
use Rattle.lists.proofs.Cases.{pick_case, some_case}
use Rattle.book.specs.Entries.{is_terminal}
use Rattle.book.specs.declared.Side.TheVariants.{Buy, Sell}
use Rattle.book.specs.declared.VenueMsg.{VenueMsg}
use Rattle.book.specs.declared.VenueOrder.{VenueOrder}
use Rattle.book.specs.declared.config.Config.{Config}
use Rattle.state.specs.declared.KernelState.{KernelState}
use Rattle.state.specs.declared.Phase.TheVariants.{Terminal}
use Rattle.rules.specs.Run.{Outcome, Run, ran, left, halt, ended, ran_to, iter}
use Rattle.rules.specs.Phases.{phase_turn, phases}
use Rattle.rules.specs.Calls.{Did, refused, stays, halts, ends, Answer, refuse, answer_on, answer, counts_fit, advance, is_paused, can_resume, passed, pass}
use Rattle.rules.specs.Conservation.{recorded_on, undelivered, Each, Conserved, Closed, Call, advances, passes, answer_to, result, AfterEach, After, Claim}
use Rattle.rules.proofs.Entry.{advance_case}
use Rattle.rules.proofs.Positions.{balanced-same, balanced-apart, balanced-joined}
use Rattle.rules.proofs.Kept.{KeptAt}
use Rattle.rules.proofs.Held.{when, over, Inv, AtEnd, Good}
use Rattle.rules.proofs.HeldPhases.{phases-good}

-- ---- the three properties, and what is held inside a call
none_over : (l : List VenueOrder) → Each (λ (o : VenueOrder). is_terminal o.state ≡ false) l → total over l ≡ 0
unfolding Each total
none_over [] h = refl
none_over (x ∷ l) h = omega (arith, none_over l h.1, open_one (is_terminal x.state) h.0)
  where
    open_one : (b : Bool) → b ≡ false → when b 1 ≡ 0
    open_one b e = rw e

all_open : (l : List VenueOrder) → total over l ≡ 0 → Each (λ (o : VenueOrder). is_terminal o.state ≡ false) l
unfolding Each total
all_open [] h = tt
all_open (x ∷ l) h = (open_one (is_terminal x.state) (omega arith), all_open l (omega arith))
  where
    open_one : (b : Bool) → when b 1 ≡ 0 → b ≡ false
    open_one true e = absurd (omega arith)
    open_one false e = refl

-- of the six tests of 102, those of orders, messages and deliveries
three_of : (a b c d e f : Bool) → (a && b && c && d && e && f) ≡ true → (a ≡ true) × (b ≡ true) × (d ≡ true)
three_of true true true true e f p = (refl, refl, refl)
three_of true true true false e f p = (refl, refl, p)
three_of true true false d e f p = (refl, refl, absurd (false≢true p))
three_of true false c d e f p = (refl, p, absurd (false≢true p))
three_of false b c d e f p = (p, absurd (false≢true p), absurd (false≢true p))

inside : (s : KernelState) → counts_fit s ≡ true → Conserved s → Inv s
unfolding counts_fit
inside s r h =
    let a = three_of (leb s.orders.count 8) (leb s.msgs.count 16) _ (leb s.deliveries.count 24) _ _ r in
    record {
      lots = λ x. omega (arith, h.lots x);
      no_terminal = none_over _ h.open_orders;
      balanced = balanced-same _ _ (total (recorded_on Buy) (undelivered s)) _ (total (recorded_on Sell) (undelivered s)) _ (omega arith) (omega arith) (balanced-joined _ _ _ _ h.positions);
      few_orders = leb-true _ _ a.0;
      few_msgs = leb-true _ _ a.1;
      few_deliveries = leb-true _ _ a.2;
    }

outside : (s : KernelState) → Inv s → Conserved s
outside s h =
    record {
      lots = λ x. omega (arith, h.lots x);
      open_orders = all_open _ h.no_terminal;
      positions = balanced-apart _ _ _ _ (balanced-same _ _ _ (total (recorded_on Buy) (undelivered s)) _ (total (recorded_on Sell) (undelivered s)) (omega arith) (omega arith) h.balanced);
    }

-- ---- one call
WellBy : Did → KernelState → Type 0
WellBy (refused r) s = Conserved s
WellBy stays s = Conserved s
WellBy (halts h) s = Unit {0}
WellBy (ends dropped) s = AtEnd dropped s

Well : Answer → Type 0
Well a = WellBy a.did a.state

answer_well : (r : Run) → Good Inv r → Well (answer r)
unfolding answer Well WellBy
answer_well r h = go r.outcome h.holds
  where
    go : (o : Outcome) → KeptAt Inv AtEnd Inv o r.state → Well (answer_on o r.state r.events)
    go ran g = outside r.state g
    go left g = outside r.state g
    go (halt h) g = tt
    go (ended ms) g = g

refuse_well : (r : ℕ) (s : KernelState) → Conserved s → Well (refuse r s)
unfolding Well WellBy
refuse_well r s h = h

advance_well : (c : Config) (rows : List ℕ) (s : KernelState) → Conserved s → Well (advance c rows s)
advance_well c rows s h = advance_case Well c rows s (λ r. answer_well _ (phases-good c rows s (inside s r h))) (λ n. refuse_well n s h)

passed_well : (n : ℕ) (s : KernelState) → Conserved s → Well (passed n s)
unfolding Well WellBy
passed_well n s h = record { lots = h.lots; open_orders = h.open_orders; positions = h.positions }

pass_well : (s : KernelState) → Conserved s → Well (pass s)
unfolding pass
pass_well s h =
    pick_case Well (counts_fit s) _ _
    (λ _. pick_case Well (is_paused s.control.phase) _ _
    (λ _. pick_case Well (can_resume s.control.resume) _ _
    (λ _. some_case Well (fitting (s.control.step + 1)) _ _ (λ n _. passed_well n s h) (λ _. refuse_well _ s h))
    (λ _. refuse_well _ s h))
    (λ _. refuse_well _ s h))
    (λ _. refuse_well _ s h)

call_well : (c : Call) (s : KernelState) → Conserved s → WellBy (answer_to c s).did (result c s).state
unfolding Well
call_well (advances c rows log) s h = advance_well c rows s h
call_well passes s h = pass_well s h

-- ---- after the end no call changes the state
stopped : (c : Config) (rows : List ℕ) (s : KernelState) → s.control.phase ≡ Terminal → phases c rows s ≡ ran_to s
unfolding phases iter phase_turn
stopped c rows s e = rw e

advance-still : (c : Config) (rows : List ℕ) (s : KernelState) → s.control.phase ≡ Terminal → (advance c rows s).state ≡ s
unfolding answer
advance-still c rows s e = advance_case (λ a. a.state ≡ s) c rows s (λ _. rw (stopped c rows s e)) (λ _. refl)

pass-still : (s : KernelState) → s.control.phase ≡ Terminal → (pass s).state ≡ s
unfolding pass pick
pass-still s e = pick_case (λ (a : Answer). a.state ≡ s) (counts_fit s) _ _ (λ _. rw e) (λ _. refl)

still : (c : Call) (s : KernelState) → s.control.phase ≡ Terminal → (result c s).state ≡ s
still (advances c rows log) s e = advance-still c rows s e
still passes s e = pass-still s e

closed_on : (dropped : List VenueMsg) (cs : List Call) (s : KernelState) → Closed dropped s → s.control.phase ≡ Terminal → AfterEach (Closed dropped) cs s
unfolding AfterEach
closed_on dropped [] s h e = tt
closed_on dropped (c ∷ cs) s h e =
    let q : s ≡ (result c s).state = sym (still c s e) in
    (subst (Closed dropped) q h, closed_on dropped cs (result c s).state (subst (Closed dropped) q h) (subst (λ t. t.control.phase ≡ Terminal) q e))

after_call : (cs : List Call) (d : Did) (t : KernelState) → WellBy d t → (Conserved t → Claim cs t) → After d t cs (Claim cs t)
unfolding WellBy
after_call cs (refused r) t h ih = (h, ih h)
after_call cs stays t h ih = (h, ih h)
after_call cs (halts n) t h ih = tt
after_call cs (ends dropped) t h ih = (h.0, closed_on dropped cs t h.0 h.1)

-- ---- every list of calls
pub conservation : (s : KernelState) → Conserved s → (calls : List Call) → Claim calls s
unfolding Claim
conservation s h [] = tt
conservation s h (c ∷ cs) = after_call cs (answer_to c s).did (result c s).state (call_well c s h) (λ g. conservation (result c s).state g cs)
