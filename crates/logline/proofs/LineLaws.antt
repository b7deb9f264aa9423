-- A line written piece by piece, and its form by the kind of the record. Assumes nothing.
use Prim.Native.Nat.{ℕ, zero, suc, ◌≤◌, ◌<◌, min}
use mathlib.Core.Path.{◌≡◌, refl, sym, ◌∙◌}
use mathlib.Core.Bool.{false}
use mathlib.Core.List.{List, [], ◌∷◌, ◌++◌}
use native.Mathlib.Omega.{arith}
use lib.Dec.{eqb}
use lib.ListN.{length, take, drop, replicate}
use Rattle.std.proofs.lemmas.List.{get_or-replicate}
use borrow.Author.Tests.{ne_eqb}
use Rattle.write.specs.declared.Writer.{Writer}
use Rattle.write.specs.Write.{texted, written}
use Rattle.write.proofs.WriteLaws.{written_append}
use Rattle.numbers.specs.Choice.{pick}
use Rattle.logline.specs.Record.{word, all, report_line, fill_line, short_line, one_line, line_on, event_line}

pub all_piece : (w : Writer) (p : List ℕ) (ps : List (List ℕ)) → written w (all (p ∷ ps)) ≡ written (written w p) (all ps)
unfolding all
all_piece w p ps = sym (written_append w p (all ps))

pub all_none : (w : Writer) → written w (all []) ≡ w
unfolding all texted
all_none w = refl

-- what shows that pieces written one behind the other are a line
pub ruleset pieces = (all_piece, all_none)

-- a record of no kind has no line
pub no_line : (t : Writer) (w : List ℕ) → (1 ≤ word w 0 → word w 0 ≤ 10 → ⊥) → t ≡ written t (event_line w)
unfolding event_line line_on pick texted
no_line t w h =
    let no : (n : ℕ) → 1 ≤ n → n ≤ 10 → eqb (word w 0) n ≡ false = λ n a b. ne_eqb (word w 0) n (λ e. h (rw e a) (rw e b)) in
    rw (no 1 (omega arith) (omega arith), no 2 (omega arith) (omega arith), no 3 (omega arith) (omega arith), no 4 (omega arith) (omega arith), no 5 (omega arith) (omega arith), no 6 (omega arith) (omega arith), no 7 (omega arith) (omega arith), no 8 (omega arith) (omega arith), no 9 (omega arith) (omega arith), no 10 (omega arith) (omega arith))

-- a line reads twelve words, and those past the end as 0
twelve_words : (w : List ℕ)
    → event_line (word w 0 ∷ word w 1 ∷ word w 2 ∷ word w 3 ∷ word w 4 ∷ word w 5 ∷ word w 6 ∷ word w 7 ∷ word w 8 ∷ word w 9 ∷ word w 10 ∷ word w 11 ∷ []) ≡ event_line w
unfolding event_line line_on report_line fill_line short_line one_line
twelve_words w = refl

-- the first n words, with 0 for those that are missing: the first k are there
padded : (n k : ℕ) → List ℕ → List ℕ
padded n k w = take k w ++ drop k (replicate n 0)

word_padded : (n k : ℕ) (w : List ℕ) (i : ℕ) → k ≡ min (length w) n → i < n → word (padded n k w) i ≡ word w i
unfolding padded
word_padded zero k w i e h = absurd (omega arith)
word_padded (suc n) zero [] i e h = get_or-replicate (suc n) i 0 0 h
word_padded (suc n) zero (x ∷ w) i e h = absurd (omega arith)
word_padded (suc n) (suc k) [] i e h = absurd (omega arith)
word_padded (suc n) (suc k) (x ∷ w) zero e h = refl
word_padded (suc n) (suc k) (x ∷ w) (suc i) e h = word_padded n k w i (omega arith) (omega arith)

pub line_padded : (k : ℕ) (w : List ℕ) → k ≡ min (length w) 12 → event_line (take k w ++ drop k (replicate 12 0)) ≡ event_line w
unfolding padded
line_padded k w e =
    let same : (i : ℕ) → i < 12 → word (padded 12 k w) i ≡ word w i = λ i. word_padded 12 k w i e in
    sym (twelve_words (padded 12 k w))
    ∙ rw (same 0 (omega arith), same 1 (omega arith), same 2 (omega arith), same 3 (omega arith), same 4 (omega arith), same 5 (omega arith), same 6 (omega arith), same 7 (omega arith), same 8 (omega arith), same 9 (omega arith), same 10 (omega arith), same 11 (omega arith)) (twelve_words w)
