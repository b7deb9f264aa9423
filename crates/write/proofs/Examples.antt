-- Numbers as text, by computation. Assumes nothing.
use mathlib.Core.Path.{◌≡◌, refl}
use mathlib.Core.List.{[], ◌∷◌, map}
use lib.IntN.{pos, negsuc}
use Rattle.numbers.specs.Choice.{pick}
use Rattle.text.specs.Bytes.{bytes}
use Rattle.write.specs.Write.{digits, decimal, signed}

texts : map decimal (0 ∷ 7 ∷ 10 ∷ 1204 ∷ []) ≡ map bytes ("0" ∷ "7" ∷ "10" ∷ "1204" ∷ [])
unfolding decimal digits pick
texts = refl

signs : map signed (pos 0 ∷ pos 12 ∷ negsuc 0 ∷ negsuc 11 ∷ []) ≡ map bytes ("0" ∷ "12" ∷ "-1" ∷ "-12" ∷ [])
unfolding signed decimal digits pick
signs = refl
