-- What the code gives from step to step is what the rules give: the laws by which each function's proof goes, one for each way on and one for each way out. Assumes nothing.
use Prim.Native.Nat.{ℕ}
use mathlib.Core.Path.{◌≡◌, refl, sym, ap, ◌∙◌}
use mathlib.Core.List.{List, ◌++◌, append_assoc}
use Rattle.std.specs.Prelude.{Option, Some, None, Result, Ok, Err, IsErr, IsErrAnd}
use Rattle.numbers.specs.Choice.{pick, on_some}
use Rattle.lists.proofs.Cases.{different}
use Rattle.lists.specs.Lists.{Put, Taken, put_of, taken_of, put_at, taken_at}
use Rattle.lists.proofs.Exits.{full_same, none_same}
use Rattle.lists.specs.declared.Arr.{Arr}
use Rattle.lists.specs.declared.Counted.{Counted}
use Rattle.lists.specs.declared.Full.{Full}
use Rattle.state.specs.declared.HaltReason.{HaltReason}
use Rattle.state.specs.declared.HaltReason.TheVariants.{CounterOverflow}
use Rattle.state.specs.declared.KernelEvent.{KernelEvent}
use Rattle.state.specs.declared.KernelState.{KernelState}
use Rattle.rules.specs.Run as rules
use Rattle.reports.specs.Log.{Logged, append_event, append_events, outcome_of, StepResult, expected, actual, halting, run_of}
use Rattle.reports.specs.declared.Stop.{Stop}
use Rattle.reports.specs.declared.Stop.TheVariants as stop
use Rattle.reports.proofs.Append.{appended_append}

-- ---- the error that a `?` hands on
pub is_the_error : {A E : Type 0} {r : Result A E} {e : E} → IsErr r × IsErrAnd r (λ x. x ≡ e) → r ≡ Err e
is_the_error {r = Err x} {e = e} h = ap (λ y. Err y) h.1
is_the_error {r = Ok x} {e = e} h = absurd h.1

-- a halt handed on by a step that runs or halts
pub hands_on : {A : Type 0} (r : Result A HaltReason) {h : HaltReason} {s : KernelState} {l : Logged} {x : StepResult}
    → IsErr r × IsErrAnd r (λ e. e ≡ h) → actual (Err (stop.Halt h)) s l ≡ x → actual (halting r) s l ≡ x
hands_on r {s = s} {l = l} e p = ap (λ q. actual (halting q) s l) (is_the_error e) ∙ p

-- the same of a step that raises nothing
pub hands_on_quiet : {A : Type 0} (r : Result A HaltReason) {h : HaltReason} {s : KernelState} {x : rules.Run}
    → IsErr r × IsErrAnd r (λ e. e ≡ h) → rules.halt_at h s ≡ x → run_of r s ≡ x
hands_on_quiet r {s = s} e p = ap (λ q. run_of q s) (is_the_error e) ∙ p

-- a stop handed on
pub hands_stop : {r : Result (Unit {0}) Stop} {w : Stop} {s : KernelState} {l : Logged} {x : StepResult}
    → IsErr r × IsErrAnd r (λ e. e ≡ w) → actual (Err w) s l ≡ x → actual r s l ≡ x
hands_stop {s = s} {l = l} e p = ap (λ q. actual q s l) (is_the_error e) ∙ p

-- ---- a step that is known
pub ran_here : (l : Logged) (s : KernelState) → actual (Ok tt) s l ≡ expected l (rules.ran_to s)
unfolding expected append_events
ran_here l s = refl

pub halted_here : (l : Logged) (h : HaltReason) (s : KernelState) → actual (Err (stop.Halt h)) s l ≡ expected l (rules.halt_at h s)
unfolding expected append_events
halted_here l h s = refl

-- ---- a step that raises nothing, as one of all steps
pub quiet : {A : Type 0} (l : Logged) (o : Result A HaltReason) (s : KernelState) {r : rules.Run} → run_of o s ≡ r → actual (halting o) s l ≡ expected l r
quiet l (Ok v) s e = ran_here l s ∙ ap (expected l) e
quiet l (Err h) s e = halted_here l h s ∙ ap (expected l) e

-- ---- a step that ran: r is what the rules give for it
pub only_ran : (o : rules.Outcome) → Ok tt ≡ outcome_of o → o ≡ rules.ran
only_ran rules.ran e = refl
only_ran rules.left e = different cc
only_ran (rules.halt h) e = different cc
only_ran (rules.ended ms) e = different cc

pub ran_there : (l : Logged) (r : rules.Run) {s : KernelState} {m : Logged} → actual (Ok tt) s m ≡ expected l r → (r.outcome ≡ rules.ran) × (r.state ≡ s)
unfolding expected
ran_there l r e = (only_ran r.outcome (ap (λ (x : StepResult). x.outcome) e), sym (ap (λ (x : StepResult). x.state) e))

-- ---- what follows a step
after_ran : (l : Logged) (r : rules.Run) (k : KernelState → rules.Run) → r.outcome ≡ rules.ran → expected l (rules.and_then r k) ≡ expected (append_events l r.events) (k r.state)
unfolding expected rules.and_then
after_ran l r k e = rw e (ap (λ (g : Logged). record { outcome = outcome_of (k r.state).outcome; state = (k r.state).state; log = g }) (sym (appended_append l r.events (k r.state).events)))

after_stop : (r : rules.Run) (k : KernelState → rules.Run) (o : rules.Outcome) (w : Stop) → r.outcome ≡ o → Err w ≡ outcome_of o → rules.and_then r k ≡ r
unfolding rules.and_then
after_stop r k rules.ran w e m = different cc
after_stop r k rules.left w e m = rw e
after_stop r k (rules.halt h) w e m = rw e
after_stop r k (rules.ended ms) w e m = rw e

module _ (l : Logged) (r : rules.Run) (k : KernelState → rules.Run) {s : KernelState} {m : Logged} where
  -- it ran: the rest goes on from what it left
  pub then_on : actual (Ok tt) s m ≡ expected l r → {x : StepResult} → x ≡ expected m (k s) → x ≡ expected l (rules.and_then r k)
  unfolding expected
  then_on e p =
      p ∙ ap (λ (x : StepResult). expected x.log (k x.state)) e
      ∙ sym (after_ran l r k (ran_there l r e).0)

  -- it did not: what it left is all
  pub then_stop : {w : Stop} → actual (Err w) s m ≡ expected l r → actual (Err w) s m ≡ expected l (rules.and_then r k)
  unfolding expected
  then_stop {w = w} e = e ∙ ap (expected l) (sym (after_stop r k r.outcome w refl (ap (λ (x : StepResult). x.outcome) e)))

-- the same after a step that raises nothing
module _ (l : Logged) (r : rules.Run) (k : KernelState → rules.Run) {s : KernelState} where
  pub quiet_on : rules.ran_to s ≡ r → {x : StepResult} → x ≡ expected l (k s) → x ≡ expected l (rules.and_then r k)
  quiet_on e p = then_on l r k (ran_here l s ∙ ap (expected l) e) p

  pub quiet_stop : {h : HaltReason} → rules.halt_at h s ≡ r → actual (Err (stop.Halt h)) s l ≡ expected l (rules.and_then r k)
  quiet_stop {h = h} e = then_stop l r k (halted_here l h s ∙ ap (expected l) e)

-- ---- an event: m is the log with it
pub raise_here : (l m : Logged) (e : KernelEvent) (s : KernelState) → m ≡ append_event l e → actual (Ok tt) s m ≡ expected l (rules.raised e s)
unfolding expected append_events
raise_here l m e s h = ap (λ (g : Logged). actual (Ok tt) s g) h

pub raise_on : (l m : Logged) (e : KernelEvent) (s : KernelState) (k : KernelState → rules.Run) → m ≡ append_event l e → {x : StepResult} → x ≡ expected m (k s) → x ≡ expected l (rules.and_then (rules.raised e s) k)
raise_on l m e s k h p = then_on l (rules.raised e s) k (raise_here l m e s h) p

-- ---- what follows what follows
then_inner : (es : List KernelEvent) (q : rules.Run) (k : rules.Run) (o : rules.Outcome) → q.outcome ≡ o
    → rules.on_ran q.outcome (rules.after es q) (rules.after (es ++ q.events) k) ≡ rules.after es (rules.on_ran q.outcome q (rules.after q.events k))
then_inner es q k rules.ran e = rw (e, append_assoc es q.events k.events)
then_inner es q k rules.left e = rw e
then_inner es q k (rules.halt z) e = rw e
then_inner es q k (rules.ended ms) e = rw e

then_outer : (r : rules.Run) (f g : KernelState → rules.Run) (o : rules.Outcome) → r.outcome ≡ o → rules.and_then (rules.and_then r f) g ≡ rules.and_then r (λ u. rules.and_then (f u) g)
unfolding rules.and_then
then_outer r f g rules.ran e = rw e (then_inner r.events (f r.state) (g (f r.state).state) (f r.state).outcome refl)
then_outer r f g rules.left e = rw e
then_outer r f g (rules.halt z) e = rw e
then_outer r f g (rules.ended ms) e = rw e

pub then_then : (r : rules.Run) (f g : KernelState → rules.Run) → rules.and_then (rules.and_then r f) g ≡ rules.and_then r (λ u. rules.and_then (f u) g)
then_then r f g = then_outer r f g r.outcome refl

-- ---- an entry that comes out of a list: p is what the rules say comes out, a what the code answers, l₁ the list that is left
module _ {A : Type 0} {n : ℕ} (l : Logged) (p : Taken A n) (k : A → Arr A n → rules.Run) (z : rules.Run) {a : Counted (Option A)} {l₁ : Arr A n} where
  pub take_on : {y : A} → a.answer ≡ Some y → taken_of a l₁ ≡ p → {x : StepResult} → x ≡ expected l (k y l₁) → x ≡ expected l (rules.taking p k z)
  unfolding on_some rules.taking
  take_on e h c = rw (← h, e) c

  pub take_none : a.answer ≡ None → taken_of a l₁ ≡ p → {x : StepResult} → x ≡ expected l z → x ≡ expected l (rules.taking p k z)
  unfolding on_some rules.taking
  take_none e h c = rw (← h, e) c

-- no entry: k puts a list into the state s, whose list is r
pub took_none : {A : Type 0} {n : ℕ} (m : Logged) (cap : ℕ) (d : A) (i : ℕ) (r : Arr A n) (k : Arr A n → KernelState) (s : KernelState) (f : A → Arr A n → rules.Run) {a : Counted (Option A)} {l : Arr A n}
    → k r ≡ s → a.answer ≡ None → taken_of a l ≡ taken_at cap d i r → actual (Ok tt) (k l) m ≡ expected m (rules.taking (taken_at cap d i r) f (rules.ran_to s))
took_none m cap d i r k s f {l = l} e q h =
    take_none m (taken_at cap d i r) f (rules.ran_to s) q h (ran_here m (k l) ∙ ap (λ y. expected m (rules.ran_to y)) (ap k (none_same cap r d i q h) ∙ e))

-- ---- an entry that goes into a list: a full list halts
module _ {A : Type 0} {n : ℕ} (p : Put A n) (k : Arr A n → KernelState) (s : KernelState) {a : Counted (Result (Unit {0}) Full)} {l₁ : Arr A n} where
  pub put_on : {v : Unit {0}} → a.answer ≡ Ok v → put_of a l₁ ≡ p → rules.ran_to (k l₁) ≡ rules.putting p k s
  unfolding pick rules.putting
  put_on e h = rw (← h, e)

  pub put_full : {f : Full} → a.answer ≡ Err f → put_of a l₁ ≡ p → rules.halt_at CounterOverflow s ≡ rules.putting p k s
  unfolding pick rules.putting
  put_full e h = rw (← h, e)

-- a list that does not take an entry halts
abbrev pub full_halts : Result (Unit {0}) Full → Result (Unit {0}) HaltReason
full_halts (Ok v) = Ok tt
full_halts (Err f) = Err CounterOverflow

-- what the code leaves, whether the entry went in or not: k puts a list into the state s, whose list is r
pub put_run : {A : Type 0} {n : ℕ} (cap i : ℕ) (v : A) (r : Arr A n) (k : Arr A n → KernelState) (s : KernelState) (o : Result (Unit {0}) Full) {a : Counted (Result (Unit {0}) Full)} {l₁ : Arr A n}
    → k r ≡ s → a.answer ≡ o → put_of a l₁ ≡ put_at cap i v r → run_of (full_halts o) (k l₁) ≡ rules.putting (put_at cap i v r) k s
put_run cap i v r k s (Ok u) e q h = put_on (put_at cap i v r) k s q h
put_run cap i v r k s (Err f) e q h = ap (λ x. rules.halt_at CounterOverflow (k x)) (full_same cap r i v q h) ∙ (ap (rules.halt_at CounterOverflow) e ∙ put_full (put_at cap i v r) k s q h)
