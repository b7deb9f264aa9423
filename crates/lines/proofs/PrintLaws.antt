-- The records of a log, one behind the other: what they print, and what they fill. Assumes nothing.
use Rattle.std.specs.List.{flat_map, fold}
use Rattle.std.specs.Simd.{first_chunks}
use Rattle.std.proofs.lemmas.List.{take_more}
use Rattle.std.proofs.lemmas.List.Concat.{flat_map-append}
use Prim.Native.Nat.{ℕ, zero, suc, ◌+◌, ◌/◌, ◌≤◌, ◌<◌, min}
use mathlib.Core.Path.{◌≡◌, refl, ap, ◌∙◌}
use mathlib.Core.List.{List, [], ◌++◌, map, append-nil}
use native.Mathlib.Nat.{not-suc-le-zero, le_of_suc-le-suc}
use native.Mathlib.Omega.{arith}
use lib.ListN.{length, take, drop, get_or, length-take}
use lib.Seq.{take_all}
use borrow.Author.Tests.{lt-ltb, le-ltb}
use Rattle.numbers.specs.Choice.{pick}
use Rattle.text.specs.Bytes.{bytes}
use Rattle.write.specs.declared.Writer.{Writer}
use Rattle.write.specs.Write.{written}
use Rattle.write.proofs.WriteLaws.{written_append}
use Rattle.logline.specs.Record.{event_line}
use Rattle.lines.specs.Print.{printed, records_of, call_text, filled_lots, filled_from, filled_after}

length-chunks : (k n : ℕ) (log : List ℕ) → length (first_chunks k n log) ≡ n
length-chunks k zero log = refl
length-chunks k (suc n) log = ap suc (length-chunks k n (drop k log))

lines_printed : (n m : ℕ) (log : List ℕ) → n ≤ m → flat_map event_line (take n (first_chunks 12 m log)) ≡ printed n log
unfolding printed
lines_printed zero m log h = refl
lines_printed (suc n) zero log h = absurd (not-suc-le-zero h)
lines_printed (suc n) (suc m) log h = ap (λ (l : List ℕ). event_line (take 12 log) ++ l) (lines_printed n m (drop 12 log) (le_of_suc-le-suc h))

sum_filled : (n m s : ℕ) (log : List ℕ) → n ≤ m → fold (λ s lots. min (s + lots) 18446744073709551615) s (map filled_lots (take n (first_chunks 12 m log))) ≡ filled_from s n log
unfolding filled_from
sum_filled zero m s log h = refl
sum_filled (suc n) zero s log h = absurd (not-suc-le-zero h)
sum_filled (suc n) (suc m) s log h = sum_filled n m (min (s + filled_lots (take 12 log)) 18446744073709551615) (drop 12 log) (le_of_suc-le-suc h)

pub sum_printed : (s events last : ℕ) (log : List ℕ)
    → fold (λ s lots. min (s + lots) 18446744073709551615) s (map filled_lots (take (records_of log events last) (first_chunks 12 (length log / 12) log))) ≡ filled_after s log events last
unfolding filled_after
sum_printed s events last log = sum_filled (records_of log events last) (length log / 12) s log (omega arith)

-- ---- records written line by line
module _ (t u : Writer) (rs : List (List ℕ)) (i : ℕ) (e : u ≡ written t (flat_map event_line (take i rs))) where
  pub lines_more : (v : Writer) → i < length rs → v ≡ written u (event_line (get_or rs i [])) → v ≡ written t (flat_map event_line (take (i + 1) rs))
  lines_more v h f = rw (f, e, take_more rs i [] h, flat_map-append, append-nil) (written_append t (flat_map event_line (take i rs)) (event_line (get_or rs i [])))

  pub lines_all : length rs ≤ i → u ≡ written t (flat_map event_line rs)
  lines_all h = rw (take_all i rs h) at e

-- ---- a call's lines, with `cut` and without
module _ (log : List ℕ) (events last : ℕ) (rs : List (List ℕ)) (e : rs ≡ take (records_of log events last) (first_chunks 12 (length log / 12) log)) (t u : Writer) (f : u ≡ written t (flat_map event_line rs)) where
  count : length rs ≡ records_of log events last
  count = rw (e, length-take, length-chunks) (omega arith)

  lines : u ≡ written t (printed (records_of log events last) log)
  lines = f ∙ ap (written t) (rw e (lines_printed (records_of log events last) (length log / 12) log (omega arith)))

  pub call_cut : (v : Writer) → length rs < events → v ≡ written u (bytes "cut\n") → v ≡ written t (call_text log events last)
  unfolding call_text pick
  call_cut v h g = rw (lt-ltb (records_of log events last) events (rw count at h)) (g ∙ rw lines (written_append t (printed (records_of log events last) log) (bytes "cut\n")))

  pub call_whole : events ≤ length rs → u ≡ written t (call_text log events last)
  unfolding call_text pick
  call_whole h = rw (le-ltb (records_of log events last) events (rw count at h), append-nil) lines
