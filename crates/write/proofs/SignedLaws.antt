-- A signed number as text: a minus where it is below 0, and its distance from 0. Assumes nothing.
use mathlib.Core.Path.{◌≡◌, refl, sym}
use mathlib.Core.Bool.{true, false, false≢true}
use mathlib.Core.List.{◌∷◌}
use native.Mathlib.Nat.{not-suc-le-zero}
use native.Mathlib.Numerals.{add-one}
use lib.IntN.{ℤ, pos, negsuc, nat_abs}
use lib.Signed.{lt_z}
use mir.Syntax.{w64}
use mir.Val.{SFits, to_z, of_z}
use mir.Facts.{to_z-of_z}
use borrow.Author.Tests.{ltb-true}
use Rattle.write.specs.Write.{decimal, signed}

below : (z : ℤ) → lt_z z (pos 0) ≡ true → 45 ∷ decimal (nat_abs z) ≡ signed z
unfolding signed
below (pos n) t = absurd (not-suc-le-zero (ltb-true n 0 t))
below (negsuc n) t = rw add-one

above : (z : ℤ) → lt_z z (pos 0) ≡ false → decimal (nat_abs z) ≡ signed z
unfolding signed
above (pos n) t = refl
above (negsuc n) t = absurd (false≢true (sym t))

-- the number as the code has it, by its 64 bits
abbrev raw : ℤ → ℤ
raw z = to_z w64 (of_z w64 z)

module _ (z : ℤ) (f : SFits w64 z) where
  pub below_signed : lt_z (raw z) (pos 0) ≡ true → 45 ∷ decimal (nat_abs (raw z)) ≡ signed z
  below_signed t = rw (to_z-of_z f) (below z (rw (to_z-of_z f) at t))

  pub above_signed : lt_z (raw z) (pos 0) ≡ false → decimal (nat_abs (raw z)) ≡ signed z
  above_signed t = rw (to_z-of_z f) (above z (rw (to_z-of_z f) at t))
