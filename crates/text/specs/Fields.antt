-- "newline-ended lines, fields parted by one space, numbers of 1 to 20 digits": a text as the list of its bytes, parted at a byte, and the number that a field writes.
use Rattle.std.specs.Prelude.{ℕ, ◌+◌, ◌-◌, ◌*◌, Bool, true, false, List, [], ◌∷◌, ltb, leb, eqb, length, Option, Some, None}
use Rattle.std.specs.Borrow.{Bor}
use Rattle.std.specs.Option.{option_map}
use Rattle.numbers.specs.Choice.{pick}
use Rattle.numbers.specs.Words.{fitting}

-- x is the byte b
abbrev pub is : ℕ → ℕ → Bool
is b x = eqb x b

-- x in front of the first of the parts
abbrev pub joined : ℕ → List (List ℕ) → List (List ℕ)
joined x [] = (x ∷ []) ∷ []
joined x (p ∷ ps) = (x ∷ p) ∷ ps

-- l parted at each b: what stands before the first b, between two, and behind the last
unfoldable pub parted : ℕ → List ℕ → List (List ℕ)
parted b [] = [] ∷ []
parted b (x ∷ l) = pick (is b x) ([] ∷ parted b l) (joined x (parted b l))

-- a line's fields, parted by one space
abbrev pub fields : List ℕ → List (List ℕ)
fields l = parted 32 l

-- l parted at its first b alone: what stands before it and what stands behind it; none where there is no b
unfoldable pub parted_once : ℕ → List ℕ → Option (List ℕ × List ℕ)
parted_once b [] = None
parted_once b (x ∷ l) = pick (is b x) (Some ([], l)) (option_map (λ p. (x ∷ p.0, p.1)) (parted_once b l))

-- two slices, as lists
abbrev pub pieces : Option (Bor (List ℕ) × Bor (List ℕ)) → Option (List ℕ × List ℕ)
pieces r = option_map (λ p. (p.0.now, p.1.now)) r

-- the digits 0 to 9
abbrev pub is_digit : ℕ → Bool
is_digit b = pick (ltb b 48) false (ltb b 58)

unfoldable pub are_digits : List ℕ → Bool
are_digits [] = true
are_digits (b ∷ l) = pick (is_digit b) (are_digits l) false

-- the number that n and then these digits write
unfoldable pub value : ℕ → List ℕ → ℕ
value n [] = n
value n (b ∷ l) = value (n * 10 + (b - 48)) l

-- "numbers of 1 to 20 digits", within 64 bits
unfoldable pub number : List ℕ → Option ℕ
number f =
    pick (eqb (length f) 0) None
    (pick (leb (length f) 20)
    (pick (are_digits f) (fitting (value 0 f)) None)
    None)
