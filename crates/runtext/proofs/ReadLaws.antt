-- The steps of reading a run file. Assumes nothing.
use Rattle.std.specs.Prelude.{Option, Some, None, Result, Ok, Err}
use Rattle.std.specs.List.{All, IsFirstMatchOrLen}
use Rattle.std.specs.Result.{result_or}
use Prim.Native.Nat.{ℕ, ◌+◌, ◌≤◌, ◌<◌, min}
use mathlib.Core.Path.{◌≡◌, refl, sym, ap, ◌∙◌}
use mathlib.Core.Logic.{◌≢◌, ⊎_elim}
use mathlib.Core.Bool.{true, false}
use mathlib.Core.List.{List, [], ◌∷◌, ◌++◌}
use native.Mathlib.Omega.{arith}
use lib.ListN.{length, take}
use lib.Dec.{eqb}
use Rattle.std.proofs.lemmas.Bool.{cases_lt}
use Rattle.std.proofs.lemmas.Grind.{common_steps}
use Rattle.std.proofs.lemmas.List.{take_more}
use borrow.Author.Tests.{le-leb, lt-leb, le-ltb, lt-ltb, eqb-true}
use Rattle.numbers.specs.Choice.{pick, on_some}
use Rattle.book.specs.Modes.{has_minimum}
use Rattle.text.specs.Fields.{parted}
use Rattle.text.proofs.PartedLaws.{parted_some, Other, parted_whole, parted_at}
use Rattle.runtake.specs.Take.{Reading, reading_of, Takes, take_text}
use Rattle.runtake.specs.declared.BadLine.{BadLine}
use Rattle.runtake.specs.declared.Reader as code
use Rattle.runtext.specs.declared.Fault.{Fault}
use Rattle.runtext.specs.declared.Fault.TheVariants.{TooLong, Line, Retired}
use Rattle.lists.proofs.Cases.{different}
use Rattle.runtext.specs.Read.{is_empty, faultless, faulty, unless_retired, closing, read_parts, read_lines}

parts_there : (l : List ℕ) → is_empty (parted 10 l) ≡ false
parts_there l = go (parted 10 l) (parted_some 10 l)
  where
    go : (ps : List (List ℕ)) → 0 < length ps → is_empty ps ≡ false
    go [] h = absurd (omega arith)
    go (p ∷ ps) h = refl

-- ---- a piece of `split_inclusive` at the text's newlines, which is up to the first newline or to the end
module _ (piece behind rest : List ℕ) (i : ℕ) (cut : rest ≡ piece ++ behind) (len : length piece ≡ min (i + 1) (length rest)) (first : IsFirstMatchOrLen (λ b. eqb b 10) rest i) where
  -- it is a line and its newline
  pub piece_ended : (line : List ℕ) → piece ≡ line ++ 10 ∷ [] → parted 10 rest ≡ line ∷ parted 10 behind
  piece_ended line e =
      let same : rest ≡ line ++ 10 ∷ behind = grind (arith, common_steps) in
      let clean : All (Other 10) line = λ k d l. let h = first.0 k d (omega arith) (grind (arith, common_steps)) in grind (arith, common_steps) in
      rw same (parted_at 10 line behind clean)

  -- it is the text's last line, which has none
  pub piece_unended : ((front : List ℕ) → piece ≢ front ++ 10 ∷ []) → parted 10 rest ≡ rest ∷ []
  piece_unended e = ⊎_elim
      (λ l.
      let here : take (i + 1) rest ≡ piece = grind (arith, common_steps) in
      absurd (e (take i rest) (sym here ∙ take_more rest i 0 l ∙ ap (λ b. take i rest ++ b ∷ []) (eqb-true _ 10 (first.1 l 0)))))
      (λ l. parted_whole 10 rest (λ k d h. first.0 k d (omega arith) (omega arith)))
      (cases_lt i (length rest))

module _ (n : ℕ) (r : Reading) where
  -- no text is left
  pub too_few : (rest : List ℕ) → length rest ≡ 0 → n < 2 → read_parts n r (parted 10 rest) ≡ faulty (Line (n + 1)) r
  unfolding read_parts closing parted pick
  too_few [] z h = rw (lt-ltb n 2 h)
  too_few (x ∷ l) z h = absurd (omega arith)

  at_end : (rest : List ℕ) → length rest ≡ 0 → 2 ≤ n → read_parts n r (parted 10 rest) ≡ unless_retired r
  unfolding read_parts closing parted pick
  at_end [] z h = rw (le-ltb n 2 h)
  at_end (x ∷ l) z h = absurd (omega arith)

  pub retired : (rest : List ℕ) → length rest ≡ 0 → 2 ≤ n → true ≡ has_minimum r.cfg.fill → read_parts n r (parted 10 rest) ≡ faulty Retired r
  unfolding unless_retired pick
  retired rest z h m = rw (at_end rest z h, ← m)

  pub whole : (rest : List ℕ) → length rest ≡ 0 → 2 ≤ n → false ≡ has_minimum r.cfg.fill → read_parts n r (parted 10 rest) ≡ faultless r
  unfolding unless_retired pick
  whole rest z h m = rw (at_end rest z h, ← m)

  -- no newline is left
  pub unended : (rest : List ℕ) → 0 < length rest → parted 10 rest ≡ rest ∷ [] → read_parts n r (parted 10 rest) ≡ faulty (Line (n + 1)) r
  unfolding read_parts closing pick
  unended [] h e = absurd (omega arith)
  unended (x ∷ l) h e = rw e

  -- a line and what stands behind it
  module _ (line behind rest : List ℕ) (e : parted 10 rest ≡ line ∷ parted 10 behind) where
    next_part : read_parts n r (parted 10 rest) ≡ on_some (take_text n line r) (λ t. read_parts (n + 1) t (parted 10 behind)) (faulty (Line (n + 1)) r)
    unfolding read_parts pick
    next_part = rw (e, parts_there behind)

    pub line_taken : (t : Reading) → Some t ≡ take_text n line r → read_parts n r (parted 10 rest) ≡ read_parts (n + 1) t (parted 10 behind)
    unfolding on_some
    line_taken t f = rw (next_part, ← f)

    pub line_bad : None ≡ take_text n line r → read_parts n r (parted 10 rest) ≡ faulty (Line (n + 1)) r
    unfolding on_some
    line_bad f = rw (next_part, ← f)

-- ---- how a line ended, with the fault that it is where it is bad
pub is_taken : (result : Result (Unit {0}) BadLine) (old new : code.Reader) (fault : Fault) {v : Unit {0}} {o : Option Reading} → Takes result old new o → Ok v ≡ result_or result (Err fault) → Some (reading_of new) ≡ o
is_taken (Ok u) old new fault t e = t.0
is_taken (Err b) old new fault t e = different cc

pub is_bad : (result : Result (Unit {0}) BadLine) (old new : code.Reader) (fault : Fault) {f : Fault} {o : Option Reading} → Takes result old new o → Err f ≡ result_or result (Err fault) → (None ≡ o) × (new ≡ old) × (f ≡ fault)
is_bad (Ok u) old new fault t e = different cc
is_bad (Err b) old new fault t e = (t.0, t.1, cc)

-- ---- the whole text
module _ (text : List ℕ) (r : Reading) where
  pub too_long : 65536 < length text → read_lines text r ≡ faulty TooLong r
  unfolding read_lines pick
  too_long h = rw (lt-leb (length text) 65536 h)

  pub not_long : length text ≤ 65536 → read_lines text r ≡ read_parts 0 r (parted 10 text)
  unfolding read_lines pick
  not_long h = rw (le-leb (length text) 65536 h)
