-- A field that is a word, by its length and its bytes. Assumes nothing.
use Prim.Native.Nat.{ℕ}
use mathlib.Core.Path.{◌≡◌, refl}
use mathlib.Core.Bool.{◌&&◌}
use mathlib.Core.List.{List, [], ◌∷◌}
use native.Mathlib.Omega.{arith}
use lib.Dec.{eqb}
use lib.ListN.{length, get_or}
use Rattle.std.specs.Str.{bytes_eq}
use Rattle.std.proofs.lemmas.Bool.Decides.{nat_tests}
use Rattle.text.proofs.CursorLaws.{first_some, first_none}

pub one_byte : (f : List ℕ) (x : ℕ) → bytes_eq f (x ∷ []) ≡ (eqb (length f) 1 && eqb (get_or f 0 0) x)
one_byte [] x = refl
one_byte (a ∷ []) x = grind (arith, nat_tests)
one_byte (a ∷ b ∷ f) x = grind (arith, nat_tests)

pub three_bytes : (f : List ℕ) (x y z : ℕ) → bytes_eq f (x ∷ y ∷ z ∷ []) ≡ (eqb (length f) 3 && eqb (get_or f 0 0) x && eqb (get_or f 1 0) y && eqb (get_or f 2 0) z)
three_bytes [] x y z = refl
three_bytes (a ∷ []) x y z = grind (arith, nat_tests)
three_bytes (a ∷ b ∷ []) x y z = grind (arith, nat_tests)
three_bytes (a ∷ b ∷ c ∷ []) x y z = grind (arith, nat_tests)
three_bytes (a ∷ b ∷ c ∷ d ∷ f) x y z = grind (arith, nat_tests)

pub five_bytes : (f : List ℕ) (x y z u v : ℕ) → bytes_eq f (x ∷ y ∷ z ∷ u ∷ v ∷ [])
    ≡ (eqb (length f) 5 && eqb (get_or f 0 0) x && eqb (get_or f 1 0) y && eqb (get_or f 2 0) z && eqb (get_or f 3 0) u && eqb (get_or f 4 0) v)
five_bytes [] x y z u v = refl
five_bytes (a ∷ []) x y z u v = grind (arith, nat_tests)
five_bytes (a ∷ b ∷ []) x y z u v = grind (arith, nat_tests)
five_bytes (a ∷ b ∷ c ∷ []) x y z u v = grind (arith, nat_tests)
five_bytes (a ∷ b ∷ c ∷ d ∷ []) x y z u v = grind (arith, nat_tests)
five_bytes (a ∷ b ∷ c ∷ d ∷ e ∷ []) x y z u v = grind (arith, nat_tests)
five_bytes (a ∷ b ∷ c ∷ d ∷ e ∷ g ∷ f) x y z u v = grind (arith, nat_tests)

-- for code that compares a field with words
pub ruleset letters = (nat_tests, one_byte, first_some, first_none)

pub ruleset words = (nat_tests, three_bytes, five_bytes, first_some, first_none)
