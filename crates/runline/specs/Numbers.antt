-- Numbers read field by field: what the contracts of the steps of `line_of` cite.
use Rattle.std.specs.Prelude.{ℕ, zero, suc, List, [], ◌∷◌, eqb, length, get_or, drop, Option, Some, None}
use Rattle.std.specs.Option.{option_map}
use Rattle.numbers.specs.Choice.{pick, on_some}
use Rattle.text.specs.Fields.{number}

-- the numbers of the first n fields: none where one of them writes none
unfoldable pub numbers : ℕ → List (List ℕ) → Option (List ℕ)
numbers zero fs = Some []
numbers (suc n) fs = on_some (number (get_or fs 0 [])) (λ x. option_map (λ xs. x ∷ xs) (numbers n (drop 1 fs))) None

-- the numbers of n fields, which are all there are
unfoldable pub only_numbers : ℕ → List (List ℕ) → Option (List ℕ)
only_numbers n fs = pick (eqb (length fs) n) (numbers n fs) None
