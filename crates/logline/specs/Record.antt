-- The line that `replay` prints of a record of the log, from its words.
use Rattle.std.specs.Prelude.{ℕ, List, [], ◌∷◌, ◌++◌, eqb, get_or}
use Rattle.numbers.specs.Choice.{pick}
use Rattle.text.specs.Bytes.{bytes}
use Rattle.write.specs.Write.{decimal}

-- a word of a record
abbrev pub word : List ℕ → ℕ → ℕ
word w i = get_or w i 0

-- a number behind a space
abbrev pub field : ℕ → List ℕ
field n = 32 ∷ decimal n

abbrev pub newline : List ℕ
newline = bytes "\n"

-- a line is its pieces, one behind the other
unfoldable pub all : List (List ℕ) → List ℕ
all [] = []
all (p ∷ ps) = p ++ all ps

-- "kinds accepted, rejected, canceled, cancelrejected, partial, fill"
unfoldable pub kind_name : ℕ → List ℕ
kind_name n =
    pick (eqb n 0) (bytes "accepted")
    (pick (eqb n 1) (bytes "rejected")
    (pick (eqb n 2) (bytes "canceled")
    (pick (eqb n 3) (bytes "cancelrejected")
    (pick (eqb n 4) (bytes "partial")
    (bytes "fill")))))

-- "report and delivered ts, seq, order, kind, cum"
unfoldable pub report_line : List ℕ → List ℕ → List ℕ
report_line name w = all (name ∷ field (word w 1) ∷ field (word w 2) ∷ field (word w 3) ∷ bytes " " ∷ kind_name (word w 5) ∷ field (word w 11) ∷ newline ∷ [])

-- "fill ts, exec, order, qty, price"
unfoldable pub fill_line : List ℕ → List ℕ
fill_line w = all (bytes "fill" ∷ field (word w 1) ∷ field (word w 2) ∷ field (word w 3) ∷ field (word w 6) ∷ field (word w 5) ∷ newline ∷ [])

-- "others as in the log": two words, or one
unfoldable pub short_line : List ℕ → List ℕ → List ℕ
short_line name w = all (name ∷ field (word w 1) ∷ field (word w 2) ∷ newline ∷ [])

unfoldable pub one_line : List ℕ → List ℕ → List ℕ
one_line name w = all (name ∷ field (word w 1) ∷ newline ∷ [])

-- the line of a record, by its kind in the log; "named halt, dropped, expired, dropexp"
unfoldable pub line_on : ℕ → List ℕ → List ℕ
line_on kind w =
    pick (eqb kind 1) (report_line (bytes "report") w)
    (pick (eqb kind 2) (fill_line w)
    (pick (eqb kind 3) (report_line (bytes "delivered") w)
    (pick (eqb kind 4) (short_line (bytes "observed") w)
    (pick (eqb kind 5) (short_line (bytes "rowend") w)
    (pick (eqb kind 6) (short_line (bytes "eod") w)
    (pick (eqb kind 7) (one_line (bytes "halt") w)
    (pick (eqb kind 8) (short_line (bytes "dropped") w)
    (pick (eqb kind 9) (short_line (bytes "expired") w)
    (pick (eqb kind 10) (one_line (bytes "dropexp") w)
    [])))))))))

unfoldable pub event_line : List ℕ → List ℕ
event_line w = line_on (word w 0) w
