-- Where there is room, an entry goes in. Assumes nothing.
use Prim.Native.Nat.{ℕ, ◌≤◌, ◌<◌, min}
use mathlib.Core.Bool.{Bool, true}
use mathlib.Core.List.{List}
use mathlib.Core.Path.{◌≡◌}
use native.Mathlib.Omega.{arith}
use lib.Dec.{leb}
use lib.ListN.{length, take, length-take}
use borrow.Author.Tests.{lt-ltb, le-leb}
use Rattle.numbers.specs.Choice.{pick}
use Rattle.lists.specs.Lists.{live, before, put_at, pushed, put_before}
use Rattle.lists.proofs.Cases.{pick_case}
use Rattle.lists.proofs.Search.{before_fits}
use Rattle.lists.specs.declared.Arr.{Arr}

module _ {A : Type 0} {n : ℕ} (cap : ℕ) (r : Arr A n) where
  pub room : (v : A) → r.count < cap → (pushed cap v r).ok ≡ true
  unfolding put_at pick
  room v h = simp (lt-ltb _ _ h, le-leb r.count r.count (omega arith))

  live-fits : length (live cap r) ≤ r.count
  unfolding live
  live-fits =
      pick_case (λ (l : List _). length l ≤ r.count) (leb r.count cap) _ _
      (λ _. let e : length (take r.count r.slots) ≡ min r.count (length r.slots) = length-take r.count r.slots in omega (arith, e))
      (λ _. omega arith)

  -- before the first that fits there is room too
  pub room-before : (p : A → Bool) (v : A) → r.count < cap → (put_before cap p v r).ok ≡ true
  unfolding put_at pick
  room-before p v h = simp (lt-ltb _ _ h, le-leb (before p (live cap r)) r.count (omega (arith, before_fits p (live cap r), live-fits)))
