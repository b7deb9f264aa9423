-- What is so of each way in which a text can end is so of every text. Assumes nothing.
use Rattle.std.specs.Prelude.{IfSome}
use Rattle.std.proofs.lemmas.Option.{MatchOption-at_some}
use Prim.Native.Nat.{ℕ, ◌+◌}
use mathlib.Core.List.{List, [], ◌∷◌}
use Rattle.lists.proofs.Cases.{pick_case, some_case}
use Rattle.runtake.specs.Take.{Reading, blank_reading, take_text}
use Rattle.runtext.specs.declared.Fault.{Fault}
use Rattle.runtext.specs.Read.{Read, faulty, unless_retired, closing, read_parts, read_lines, read_text}

-- C is kept by every line that is not bad, and gives P of a text with a fault and of one that is read to its end
module _ (C : Reading → Type 0) (P : Read → Type 0)
    (line : (n : ℕ) (l : List ℕ) (r : Reading) → C r → IfSome (take_text n l r) C)
    (fault : (f : Fault) (r : Reading) → C r → P (faulty f r))
    (whole : (r : Reading) → C r → P (unless_retired r)) where
  closing_case : (n : ℕ) (r : Reading) (l : List ℕ) → C r → P (closing n r l)
  unfolding closing
  closing_case n r l h = pick_case P _ _ _ (λ _. pick_case P _ _ _ (λ _. fault _ r h) (λ _. whole r h)) (λ _. fault _ r h)

  -- line by line, up to the first bad one
  parts-case : (n : ℕ) (r : Reading) (ls : List (List ℕ)) → C r → P (read_parts n r ls)
  unfolding read_parts
  parts-case n r [] h = closing_case n r [] h
  parts-case n r (l ∷ ls) h =
      pick_case P _ _ _ (λ _. closing_case n r l h)
      (λ _. some_case P (take_text n l r) _ _ (λ t e. parts-case (n + 1) t ls (MatchOption-at_some _ C t e (line n l r h))) (λ _. fault _ r h))

  pub text_case : (text words : List ℕ) → C (blank_reading words) → P (read_text text words)
  unfolding read_text read_lines
  text_case text words h = pick_case P _ _ _ (λ _. parts-case 0 (blank_reading words) _ h) (λ _. fault _ (blank_reading words) h)
