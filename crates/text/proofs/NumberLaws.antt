-- The number that digits write, read from the front. Assumes nothing.
use Rattle.std.specs.Prelude.{Option, Some, None}
use Rattle.std.specs.Char.{digit_value}
use Prim.Native.Nat.{ℕ, suc, ◌+◌, ◌-◌, ◌*◌, ◌≤◌, ◌<◌}
use mathlib.Core.Path.{◌≡◌, ◌∙◌}
use mathlib.Core.Bool.{true, false}
use mathlib.Core.List.{List, [], ◌∷◌}
use native.Mathlib.Numerals.{add-one}
use lib.Dec.{eqb}
use native.Mathlib.Omega.{arith}
use lib.ListN.{length, drop, get_or, drop_of_length-le}
use lib.Seq.{drop-cons}
use borrow.Author.Tests.{ne_eqb, lt-leb, le-leb, lt-ltb, le-ltb}
use Rattle.numbers.specs.Choice.{pick}
use Rattle.numbers.specs.Words.{fits, fitting}
use Rattle.text.specs.Fields.{is_digit, are_digits, value, number}

-- a digit, in std's words
module _ (b : ℕ) where
  digit_is : digit_value b < 10 → is_digit b ≡ true
  unfolding pick
  digit_is h = grind arith

  digit_is_not : ¬ (digit_value b < 10) → is_digit b ≡ false
  unfolding pick
  digit_is_not h = grind arith

  digit_worth : digit_value b < 10 → digit_value b ≡ b - 48
  digit_worth h = grind arith

-- the number that n and then these bytes write, if they are digits
unfoldable pub read_on : ℕ → List ℕ → Option ℕ
read_on n l = pick (are_digits l) (fitting (value n l)) None

-- more digits write no smaller number
value_least : (n : ℕ) (l : List ℕ) → n ≤ value n l
unfolding value
value_least n [] = omega arith
value_least n (b ∷ l) = omega (arith, value_least (n * 10 + (b - 48)) l)

pub number_empty : (f : List ℕ) → eqb (length f) 0 ≡ true → number f ≡ None
unfolding number pick
number_empty f h = rw h

pub number_long : (f : List ℕ) → 20 < length f → number f ≡ None
unfolding number pick
number_long f h = rw (ne_eqb (length f) 0 (λ e. omega arith), lt-leb (length f) 20 h)

pub number_short : (f : List ℕ) → eqb (length f) 0 ≡ false → length f ≤ 20 → number f ≡ read_on 0 f
unfolding number read_on pick
number_short f h k = rw (h, le-leb (length f) 20 k)

-- by the byte at place i
module _ (n : ℕ) (f : List ℕ) (i : ℕ) (h : i < length f) where
  pub read_over : 18446744073709551616 ≤ n * 10 + (get_or f i 0 - 48) → None ≡ read_on n (drop i f)
  unfolding read_on value fitting fits pick
  read_over k =
      let z : 18446744073709551616 ≤ value (n * 10 + (get_or f i 0 - 48)) (drop (suc i) f) = omega (arith, value_least (n * 10 + (get_or f i 0 - 48)) (drop (suc i) f)) in
      rw (drop-cons f i 0 h, le-ltb (value (n * 10 + (get_or f i 0 - 48)) (drop (suc i) f)) 18446744073709551616 z) (grind arith)

  pub read_other : ¬ (digit_value (get_or f i 0) < 10) → None ≡ read_on n (drop i f)
  unfolding read_on are_digits pick
  read_other e = rw (drop-cons f i 0 h, digit_is_not (get_or f i 0) e)

  pub read_more : (d : ℕ) → (digit_value (get_or f i 0) < 10) × (d ≡ digit_value (get_or f i 0)) → (d ≡ get_or f i 0 - 48) × (read_on n (drop i f) ≡ read_on (n * 10 + d) (drop (i + 1) f))
  unfolding read_on are_digits value pick
  read_more d e =
      let z : d ≡ get_or f i 0 - 48 = e.1 ∙ digit_worth (get_or f i 0) e.0 in
      (z, rw (add-one, drop-cons f i 0 h, digit_is (get_or f i 0) e.0, z))

pub read_all : (n : ℕ) (f : List ℕ) (i : ℕ) → length f ≤ i → n < 18446744073709551616 → read_on n (drop i f) ≡ Some n
unfolding read_on are_digits value fitting fits pick
read_all n f i h k = rw (drop_of_length-le f h, lt-ltb n 18446744073709551616 k)
