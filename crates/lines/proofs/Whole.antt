-- A text is never cut short for want of room where there are 110 bytes for each record of the log and four for `cut`. Assumes nothing.
use Prim.Native.Nat.{ℕ, zero, suc, ◌+◌, ◌*◌, ◌/◌, ◌≤◌, ◌<◌}
use mathlib.Core.Path.{◌≡◌, ◌∙◌}
use mathlib.Core.Bool.{Bool, true, false}
use mathlib.Core.List.{List, [], ◌∷◌, ◌++◌}
use native.Mathlib.Omega.{arith}
use lib.Dec.{ltb, eqb}
use lib.ListN.{length, take, drop, get_or, length-append}
use Rattle.numbers.specs.Choice.{pick}
use Rattle.text.specs.Bytes.{bytes}
use Rattle.write.specs.Write.{text_at, texted, decimal}
use Rattle.write.proofs.Whole.{word-most}
use Rattle.write.proofs.WriteLaws.{texted-whole}
use Rattle.logline.specs.Record.{word, all, kind_name, report_line, fill_line, short_line, one_line, line_on, event_line}
use Rattle.lines.specs.Print.{printed, records_of, call_text}

-- a list of words of 64 bits
unfoldable pub Words : List ℕ → Type 0
Words l = (i : ℕ) → get_or l i 0 < 18446744073709551616

words_take : (n : ℕ) (l : List ℕ) → Words l → Words (take n l)
unfolding Words
words_take zero l h i = omega arith
words_take (suc n) [] h i = omega arith
words_take (suc n) (x ∷ l) h zero = h zero
words_take (suc n) (x ∷ l) h (suc i) = words_take n l (λ j. h (suc j)) i

words-drop : (n : ℕ) (l : List ℕ) → Words l → Words (drop n l)
unfolding Words
words-drop zero l h = h
words-drop (suc n) [] h = h
words-drop (suc n) (x ∷ l) h = words-drop n l (λ j. h (suc j))

either-most : (t : Bool) (a b : List ℕ) (m : ℕ) → length a ≤ m → length b ≤ m → length (pick t a b) ≤ m
unfolding pick
either-most true a b m h k = h
either-most false a b m h k = k

kind_most : (n : ℕ) → length (kind_name n) ≤ 14
unfolding kind_name
kind_most n =
    either-most (eqb n 0) _ _ 14 (omega arith)
    (either-most (eqb n 1) _ _ 14 (omega arith)
    (either-most (eqb n 2) _ _ 14 (omega arith)
    (either-most (eqb n 3) _ _ 14 (omega arith)
    (either-most (eqb n 4) _ _ 14 (omega arith)
    (omega arith)))))

-- ---- the line of a record: 110 bytes at most, of a fill
module _ (w : List ℕ) (h : Words w) where
  number-most : (i : ℕ) → length (decimal (word w i)) ≤ 20
  unfolding Words
  number-most i = word-most (word w i) (h i)

  report_most : (name : List ℕ) → length (report_line name w) ≤ length name + 100
  unfolding report_line all
  report_most name = simp length-append (omega (arith, number-most 1, number-most 2, number-most 3, number-most 11, kind_most (word w 5)))

  fill_most : length (fill_line w) ≤ 110
  unfolding fill_line all
  fill_most = simp length-append (omega (arith, number-most 1, number-most 2, number-most 3, number-most 5, number-most 6))

  short-most : (name : List ℕ) → length (short_line name w) ≤ length name + 43
  unfolding short_line all
  short-most name = simp length-append (omega (arith, number-most 1, number-most 2))

  one-most : (name : List ℕ) → length (one_line name w) ≤ length name + 43
  unfolding one_line all
  one-most name = simp length-append (omega (arith, number-most 1))

  line_most : (kind : ℕ) → length (line_on kind w) ≤ 110
  unfolding line_on
  line_most kind =
      either-most (eqb kind 1) _ _ 110 (omega (arith, report_most (bytes "report")))
      (either-most (eqb kind 2) _ _ 110 fill_most
      (either-most (eqb kind 3) _ _ 110 (omega (arith, report_most (bytes "delivered")))
      (either-most (eqb kind 4) _ _ 110 (omega (arith, short-most (bytes "observed")))
      (either-most (eqb kind 5) _ _ 110 (omega (arith, short-most (bytes "rowend")))
      (either-most (eqb kind 6) _ _ 110 (omega (arith, short-most (bytes "eod")))
      (either-most (eqb kind 7) _ _ 110 (omega (arith, one-most (bytes "halt")))
      (either-most (eqb kind 8) _ _ 110 (omega (arith, short-most (bytes "dropped")))
      (either-most (eqb kind 9) _ _ 110 (omega (arith, short-most (bytes "expired")))
      (either-most (eqb kind 10) _ _ 110 (omega (arith, one-most (bytes "dropexp")))
      (omega arith))))))))))

  event_most : length (event_line w) ≤ 110
  unfolding event_line
  event_most = line_most (word w 0)

-- ---- the text of a call
printed-most : (n : ℕ) (log : List ℕ) → Words log → length (printed n log) ≤ n * 110
unfolding printed
printed-most zero log h = omega arith
printed-most (suc n) log h = simp length-append (omega (arith, event_most (take 12 log) (words_take 12 log h), printed-most n (drop 12 log) (words-drop 12 log h)))

module _ (log : List ℕ) (events last : ℕ) (h : Words log) where
  call-most : length (call_text log events last) ≤ length log / 12 * 110 + 4
  unfolding call_text
  call-most =
      let r : records_of log events last ≤ length log / 12 = omega arith in
      simp length-append (omega (arith, r, printed-most (records_of log events last) log h, either-most (ltb (records_of log events last) events) (bytes "cut\n") [] 4 (omega arith) (omega arith)))

  -- what a writer of that room has after `put_lines`, if it had nothing before: the text in front, and its length
  pub printed-whole : (out : List ℕ) → length log / 12 * 110 + 4 ≤ length out
      → texted (text_at out 0) (call_text log events last) ≡ text_at (call_text log events last ++ drop (length (call_text log events last)) out) (length (call_text log events last))
  printed-whole out f =
      let z : 0 + length (call_text log events last) ≡ length (call_text log events last) = omega arith in
      texted-whole (call_text log events last) out 0 (omega (arith, call-most)) ∙ rw z
