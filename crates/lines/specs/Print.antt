-- The lines that `replay` prints: those of a call, the last, `bad` and `retired`.
use Rattle.std.specs.Prelude.{ℕ, zero, suc, ◌+◌, ◌-◌, ◌/◌, min, ◌&&◌, ◌||◌, List, [], ◌∷◌, ◌++◌, ltb, eqb, ℤ, length, take, drop}
use Rattle.numbers.specs.Choice.{pick}
use Rattle.text.specs.Bytes.{bytes}
use Rattle.write.specs.Write.{signed}
use Rattle.logline.specs.Record.{word, field, newline, all, event_line}

-- the lines of the first n records
unfoldable pub printed : ℕ → List ℕ → List ℕ
printed zero log = []
printed (suc n) log = event_line (take 12 log) ++ printed n (drop 12 log)

-- "The log is 512 records": how many are printed of a log with the events of several calls, of which so many are the last call's. Of the last call 512, and no more than the log holds
abbrev pub records_of : List ℕ → ℕ → ℕ → ℕ
records_of log events last = min (events - (last - 512)) (length log / 12)

-- "a call raising more then adds `cut`."
unfoldable pub call_text : List ℕ → ℕ → ℕ → List ℕ
call_text log events last = printed (records_of log events last) log ++ pick (ltb (records_of log events last) events) (bytes "cut\n") []

-- N2, "`last` over the printed reports of kind partial and fill": a record of kind 1 is a report, its word 5 its kind, 4 partial and 5 fill, its word 10 its last
unfoldable pub filled_lots : List ℕ → ℕ
filled_lots w = pick (eqb (word w 0) 1 && (eqb (word w 5) 4 || eqb (word w 5) 5)) (word w 10) 0

-- N2, "the sum", with the first n records of a log. It stays at 2^64 − 1, which no run reaches: an order's fills are within its quantity, and all quantities together within 64 bits
unfoldable pub filled_from : ℕ → ℕ → List ℕ → ℕ
filled_from sum zero log = sum
filled_from sum (suc n) log = filled_from (min (sum + filled_lots (take 12 log)) 18446744073709551615) n (drop 12 log)

-- N2, "the printed reports": of the same records as call_text
unfoldable pub filled_after : ℕ → List ℕ → ℕ → ℕ → ℕ
filled_after sum log events last = filled_from sum (records_of log events last) log

-- "Last: venue position, live buy and sell, and" N2's sum
unfoldable pub last_line : ℤ → ℕ → ℕ → ℕ → List ℕ
last_line p buy sell filled = all (bytes "position " ∷ signed p ∷ bytes " live" ∷ field buy ∷ field sell ∷ bytes " filled" ∷ field filled ∷ newline ∷ [])

-- a word and the number of a line
abbrev pub numbered : List ℕ → ℕ → List ℕ
numbered name n = all (name ∷ field n ∷ newline ∷ [])

-- "`bad N`"
unfoldable pub bad_line : ℕ → List ℕ
bad_line n = numbered (bytes "bad") n

-- N11, "`retired N` with the line number"
unfoldable pub retired_line : ℕ → List ℕ
retired_line n = numbered (bytes "retired") n
