-- Whether a number is one of 64 bits; two tests that both hold; what is so of each way out of a position that moves is so of the move; the events of a call. Assumes nothing.
use Rattle.std.specs.Prelude.{Option, Some, None}
use Rattle.numbers.specs.Choice.{on_some}
use Prim.Native.Nat.{ℕ, ◌+◌, ◌≤◌}
use mathlib.Core.Bool.{Bool, true, false, ◌&&◌}
use mathlib.Core.Path.{◌≡◌, refl}
use lib.IntN.{ℤ, pos, ◌+ℤ◌, ◌-ℤ◌}
use Rattle.numbers.specs.Words.{fits, fitting}
use Rattle.numbers.specs.Position.{ranged, raised_by, lowered_by}
use Rattle.numbers.specs.declared.position.Position.{Position}
use Rattle.lists.proofs.Cases.{pick_case, different}
use Rattle.book.specs.Entries.{on_side}
use Rattle.book.specs.declared.Side.{Side}
use Rattle.book.specs.declared.Side.TheVariants.{Buy, Sell}
use Rattle.rules.specs.Matching.{moved}
use Rattle.state.specs.declared.KernelEvent.TheVariants.{Halted}
use Rattle.rules.specs.Run.{Outcome, Run, ran, left, halt, ended}
use Rattle.rules.specs.Calls.{answer_on, answer}
use mathlib.Core.List.{[], ◌∷◌}
use native.Mathlib.Omega.{arith}
use lib.ListN.{length, length-append}

-- whether n is a number of 64 bits
pub fits_some : (n : ℕ) {x : ℕ} → fitting n ≡ Some x → fits n ≡ true
unfolding fitting
fits_some n {x} = pick_case (λ o. o ≡ Some x → fits n ≡ true) (fits n) _ _ (λ e _. e) (λ _ q. different cc)

pub fits_none : (n : ℕ) → fitting n ≡ None → fits n ≡ false
unfolding fitting
fits_none n = pick_case (λ o. o ≡ None → fits n ≡ false) (fits n) _ _ (λ _ q. different cc) (λ e _. e)

pub both : (a b : Bool) → (a && b) ≡ true → (a ≡ true) × (b ≡ true)
both true b e = (refl, e)
both false b e = different cc

-- p moved by n lots of side d
abbrev pub moved_by : Side → ℕ → ℤ → ℤ
moved_by d n p = on_side d (p +ℤ pos n) (p -ℤ pos n)

-- a position that stays in its range has moved by just that
pub moved_case : {B : Type 0} (P : B → Type 0) (d : Side) (p : Position) (n : ℕ) (k : Position → B) (z : B)
    → P (k (record { lots = moved_by d n p.lots })) → P z → P (on_some (moved d p n) k z)
unfolding on_side raised_by lowered_by ranged on_some
moved_case P Buy p n k z h g =
    let Q : Option Position → Type 0 = λ m. P (on_some m k z) in
    pick_case Q _ _ _ (λ _. pick_case Q _ _ _ (λ _. pick_case Q _ _ _ (λ _. h) (λ _. g)) (λ _. g)) (λ _. g)
moved_case P Sell p n k z h g =
    let Q : Option Position → Type 0 = λ m. P (on_some m k z) in
    pick_case Q _ _ _ (λ _. pick_case Q _ _ _ (λ _. pick_case Q _ _ _ (λ _. h) (λ _. g)) (λ _. g)) (λ _. g)

-- ---- a call: its halt adds an event
pub answer-few : (n : ℕ) (r : Run) → length r.events ≤ n → length (answer r).events ≤ n + 1
unfolding answer
answer-few n r h = go r.outcome
  where
    go : (o : Outcome) → length (answer_on o r.state r.events).events ≤ n + 1
    go ran = omega (arith, h)
    go left = omega (arith, h)
    go (halt w) = omega (arith, h, length-append r.events (Halted w ∷ []))
    go (ended ms) = omega (arith, h)
