-- Fields and numbers at their limits, by computation. Assumes nothing.
use Rattle.std.specs.Prelude.{Some, None}
use mathlib.Core.Path.{◌≡◌, refl}
use mathlib.Core.List.{[], ◌∷◌, map}
use Rattle.numbers.specs.Choice.{pick}
use Rattle.numbers.specs.Words.{fits, fitting}
use Rattle.text.specs.Bytes.{bytes}
use Rattle.text.specs.Fields.{parted, fields, are_digits, value, number}

-- "fields parted by one space": a second space parts an empty field off
parts : fields (bytes "x  7 ") ≡ map bytes ("x" ∷ "" ∷ "7" ∷ "" ∷ [])
unfolding parted pick
parts = refl

-- "numbers of 1 to 20 digits", within 64 bits
numbers :
    map (λ s. number (bytes s)) ("0" ∷ "00000000000000000007" ∷ "000000000000000000007" ∷ "18446744073709551615" ∷ "18446744073709551616" ∷ "" ∷ "-1" ∷ "+1" ∷ "1a" ∷ [])
    ≡ Some 0 ∷ Some 7 ∷ None ∷ Some 18446744073709551615 ∷ None ∷ None ∷ None ∷ None ∷ None ∷ []
unfolding number are_digits value fitting fits pick
numbers = refl
