-- A call that raised fewer events than its log holds, one that raised more, a position below 0, a bad line, one that is retired, and what is filled. Document 01's sample is printed whole in `day`. Assumes nothing.
use Prim.Native.Nat.{ℕ, zero, suc}
use mathlib.Core.Path.{◌≡◌, refl}
use mathlib.Core.List.{List, [], ◌∷◌, ◌++◌}
use lib.IntN.{negsuc}
use Rattle.numbers.specs.Choice.{pick}
use Rattle.text.specs.Bytes.{bytes}
use Rattle.write.specs.Write.{digits, decimal, signed}
use Rattle.logline.specs.Record.{all, kind_name, report_line, short_line, line_on, event_line}
use Rattle.lines.specs.Print.{printed, call_text, filled_lots, filled_from, filled_after, last_line, bad_line, retired_line}

-- the records of the sample's second call
second : List ℕ
second =
    5 ∷ 0 ∷ 20 ∷ 0 ∷ 0 ∷ 0 ∷ 0 ∷ 0 ∷ 0 ∷ 0 ∷ 0 ∷ 0
    ∷ 3 ∷ 10 ∷ 0 ∷ 1 ∷ 0 ∷ 0 ∷ 1 ∷ 0 ∷ 101 ∷ 5 ∷ 0 ∷ 0
    ∷ 3 ∷ 20 ∷ 1 ∷ 1 ∷ 0 ∷ 5 ∷ 1 ∷ 0 ∷ 101 ∷ 5 ∷ 5 ∷ 5
    ∷ 6 ∷ 0 ∷ 0 ∷ 0 ∷ 0 ∷ 0 ∷ 0 ∷ 0 ∷ 0 ∷ 0 ∷ 0 ∷ 0
    ∷ []

examples :
    -- the words of a later record are not printed; a call of five events in a log of four
    (call_text second 1 1 ≡ bytes "rowend 0 20\n")
    × (call_text second 5 5 ≡ bytes "rowend 0 20\ndelivered 10 0 1 accepted 0\ndelivered 20 1 1 fill 5\neod 0 0\ncut\n")
    × (last_line (negsuc 11) 7 8 9 ≡ bytes "position -12 live 7 8 filled 9\n")
    × (bad_line 10 ≡ bytes "bad 10\n")
    × (retired_line 2 ≡ bytes "retired 2\n")
unfolding second decimal digits signed pick all kind_name report_line short_line line_on event_line printed call_text last_line bad_line retired_line
examples = (refl, refl, refl, refl, refl)

-- ---- N2, of an order for 10: the words of a report (1), or of one delivered (3), by its kind, last and cum
on_ten : ℕ → ℕ → ℕ → ℕ → List ℕ
on_ten event kind lots cum = event ∷ 20 ∷ 1 ∷ 1 ∷ 0 ∷ kind ∷ 1 ∷ 0 ∷ 101 ∷ 10 ∷ lots ∷ cum ∷ []

times : ℕ → List ℕ → List ℕ
times zero l = []
times (suc n) l = l ++ times n l

filled-examples :
    -- the customer's: 6 filled, then cancelled; and the report of the 6 delivered
    (filled_after 0 (on_ten 1 4 6 6 ++ on_ten 1 2 0 6 ++ on_ten 3 4 6 6) 3 3 ≡ 6)
    -- 6 and the other 4: the order counts whole
    × (filled_after 0 (on_ten 1 4 6 6 ++ on_ten 1 5 4 10) 2 2 ≡ 10)
    -- the log has no room for the second report; and the 513th of a call, which is not printed
    × (filled_after 0 (on_ten 1 4 6 6) 2 2 ≡ 6)
    × (filled_after 0 (times 513 (on_ten 1 4 1 1)) 513 513 ≡ 512)
    -- behind calls that filled 7; and a sum past 64 bits
    × (filled_after 7 (on_ten 1 4 6 6) 1 1 ≡ 13)
    × (filled_after 18446744073709551610 (on_ten 1 4 6 6) 1 1 ≡ 18446744073709551615)
unfolding on_ten times pick filled_lots filled_from filled_after
filled-examples = (refl, refl, refl, refl, refl, refl)
