-- Runs that keep a property, whatever it is: P of the state where a run ran to its end, L where the walk was left, E where the data ended, nothing where it halted.
-- One law for each way in which the rules join their steps. Assumes nothing.
use Rattle.std.specs.Prelude.{Option}
use Prim.Native.Nat.{ℕ, zero, suc, ◌≤◌}
use mathlib.Core.Bool.{Bool, true, false}
use mathlib.Core.List.{List}
use mathlib.Core.Path.{◌≡◌, refl}
use Rattle.numbers.specs.Choice.{pick, on_some}
use Rattle.lists.specs.Lists.{put_at, taken_at}
use Rattle.lists.proofs.Cases.{pick_case, some_case}
use Rattle.lists.proofs.Sums.{put_case, take_case, Added, Took}
use Rattle.book.specs.declared.VenueMsg.{VenueMsg}
use Rattle.state.specs.declared.HaltReason.{HaltReason}
use Rattle.state.specs.declared.HaltReason.TheVariants.{CounterOverflow}
use Rattle.state.specs.declared.KernelEvent.{KernelEvent}
use Rattle.state.specs.declared.KernelState.{KernelState}
use Rattle.rules.specs.Run.{Outcome, Run, ran, left, halt, ended, ran_to, raised, halt_at, on_ran, after, and_then, putting, taking, Turn, again, last, on_turn, iter}
use Rattle.rules.proofs.Loop.{run_of}
use Rattle.lists.specs.declared.Arr.{Arr}

abbrev pub KeptAt : (KernelState → Type 0) → (List VenueMsg → KernelState → Type 0) → (KernelState → Type 0) → Outcome → KernelState → Type 0
KeptAt L E P ran s = P s
KeptAt L E P left s = L s
KeptAt L E P (halt h) s = Unit {0}
KeptAt L E P (ended ms) s = E ms s

-- a record, so that a run's property is found from the goal
pub record Kept (L : KernelState → Type 0) (E : List VenueMsg → KernelState → Type 0) (P : KernelState → Type 0) (r : Run) : Type 0 where
  pub holds : KeptAt L E P r.outcome r.state

module _ {L : KernelState → Type 0} {E : List VenueMsg → KernelState → Type 0} {P : KernelState → Type 0} where
  pub ran-kept : {s : KernelState} → P s → Kept L E P (ran_to s)
  ran-kept h = record { holds = h }

  pub raised-kept : {e : KernelEvent} {s : KernelState} → P s → Kept L E P (raised e s)
  raised-kept h = record { holds = h }

  pub halt-kept : {h : HaltReason} {s : KernelState} → Kept L E P (halt_at h s)
  halt-kept = record { holds = tt }

  pub left-kept : {s : KernelState} {es : List KernelEvent} → L s → Kept L E P (record { outcome = left; state = s; events = es })
  left-kept h = record { holds = h }

  pub ended-kept : {ms : List VenueMsg} {s : KernelState} {es : List KernelEvent} → E ms s → Kept L E P (record { outcome = ended ms; state = s; events = es })
  ended-kept h = record { holds = h }

  pub after_kept : (es : List KernelEvent) {r : Run} → Kept L E P r → Kept L E P (after es r)
  after_kept es h = record { holds = h.holds }

  -- ---- choices
  pub pick-kept : (b : Bool) {x y : Run} → Kept L E P x → Kept L E P y → Kept L E P (pick b x y)
  pick-kept b h k = pick_case (Kept L E P) b _ _ (λ _. h) (λ _. k)

  pub some-kept : {A : Type 0} (o : Option A) {k : A → Run} {z : Run} → ((x : A) → Kept L E P (k x)) → Kept L E P z → Kept L E P (on_some o k z)
  some-kept o h g = some_case (Kept L E P) o _ _ (λ x _. h x) (λ _. g)

  -- ---- an entry out of a list, an entry into a list
  pub taking-kept : {A : Type 0} {size : ℕ} {most : ℕ} {d : A} {i : ℕ} {r : Arr A size} {k : A → Arr A size → Run} {z : Run}
      → ((x : A) (l : Arr A size) → Took most d i r x l → Kept L E P (k x l)) → ((r.count ≤ most → r.count ≤ i) → Kept L E P z) → Kept L E P (taking (taken_at most d i r) k z)
  unfolding taking on_some
  taking-kept {most} {d} {i} {r} {k} {z} h g = take_case most (λ t. Kept L E P (on_some t.got (λ x. k x t.list) z)) d i r h g

  pub putting-kept : {A : Type 0} {size : ℕ} {most : ℕ} (i : ℕ) {v : A} {r : Arr A size} (k : Arr A size → KernelState) (s : KernelState)
      → ((l : Arr A size) → Added most v r l → P (k l)) → Kept L E P (putting (put_at most i v r) k s)
  unfolding putting pick
  putting-kept {most} i {v} {r} k s h =
      put_case most (λ p. Kept L E P (pick p.ok (ran_to (k p.list)) (halt_at CounterOverflow s))) i v r (λ l a. ran-kept (h l a)) halt-kept

  -- ---- a step whose run is known goes on from its state
  pub ran_then : (s : KernelState) (k : KernelState → Run) → Kept L E P (k s) → Kept L E P (and_then (ran_to s) k)
  unfolding and_then
  ran_then s k h = record { holds = h.holds }

  pub raised_then : (e : KernelEvent) (s : KernelState) (k : KernelState → Run) → Kept L E P (k s) → Kept L E P (and_then (raised e s) k)
  unfolding and_then
  raised_then e s k h = record { holds = h.holds }

  pub halt_then : (h : HaltReason) (s : KernelState) (k : KernelState → Run) → Kept L E P (and_then (halt_at h s) k)
  unfolding and_then
  halt_then h s k = record { holds = tt }

  -- one of two steps, and then by the same test from one of two places
  pub picks_kept : {A : Type 0} (b : Bool) (x y : Run) (i j : A) (k : A → KernelState → Run)
      → (b ≡ true → Kept L E P (and_then x (k i))) → (b ≡ false → Kept L E P (and_then y (k j))) → Kept L E P (and_then (pick b x y) (k (pick b i j)))
  unfolding pick
  picks_kept true x y i j k h g = h refl
  picks_kept false x y i j k h g = g refl

-- ---- one step, then another
module _ {L : KernelState → Type 0} {E : List VenueMsg → KernelState → Type 0} {P Q : KernelState → Type 0} where
  pub then_kept : {a : Run} {k : KernelState → Run} → Kept L E P a → ((s : KernelState) → P s → Kept L E Q (k s)) → Kept L E Q (and_then a k)
  unfolding and_then
  then_kept {a} {k} h f = record { holds = go a.outcome h.holds }
    where
      go : (o : Outcome) → KeptAt L E P o a.state → KeptAt L E Q (on_ran o (record { outcome = o; state = a.state; events = a.events }) (after a.events (k a.state))).outcome (on_ran o a (after a.events (k a.state))).state
      go ran g = (f a.state g).holds
      go left g = g
      go (halt n) g = tt
      go (ended ms) g = g

  pub kept_map : {r : Run} → ((s : KernelState) → P s → Q s) → Kept L E P r → Kept L E Q r
  kept_map {r} f h = record { holds = go r.outcome h.holds }
    where
      go : (o : Outcome) → KeptAt L E P o r.state → KeptAt L E Q o r.state
      go ran g = f r.state g
      go left g = g
      go (halt n) g = tt
      go (ended ms) g = g

-- ---- a loop keeps what each turn keeps, whatever its fuel
module _ {L : KernelState → Type 0} {E : List VenueMsg → KernelState → Type 0} (P : KernelState → Type 0) where
  pub iter-kept : (step : KernelState → Turn) → ((s : KernelState) → P s → Kept L E P (run_of (step s))) → (n : ℕ) (s : KernelState) → P s → Kept L E P (iter step n s)
  unfolding iter
  iter-kept step h zero s p = ran-kept p
  iter-kept step h (suc n) s p = go (step s) (h s p) (iter-kept step h n)
    where
      go : (x : Turn) → Kept L E P (run_of x) → ((t : KernelState) → P t → Kept L E P (iter step n t)) → Kept L E P (on_turn x (λ r. and_then r (iter step n)))
      go (again r) g ih = then_kept g ih
      go (last r) g ih = g
