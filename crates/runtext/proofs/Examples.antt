-- Document 01's sample run file read whole, and run files at the limits of the grammar. Assumes nothing.
use Rattle.std.specs.Prelude.{Option, Some, None, is_some}
use Prim.Native.Nat.{ℕ, zero, suc, ◌<◌}
use Prim.Native.String.{String, ◌++◌ as ◌then◌}
use mathlib.Core.Bool.{Bool, true, false}
use mathlib.Core.Path.{◌≡◌, refl}
use mathlib.Core.List.{List, [], ◌∷◌, ◌++◌, map}
use lib.ListN.{length, replicate, take}
use borrow.Author.Tests.{lt-leb}
use Rattle.numbers.specs.Choice.{pick, on_some}
use Rattle.numbers.specs.Words.{fits, fitting}
use Rattle.lists.specs.Lists.{live, insert_at, before, placed, put_at}
use Rattle.book.specs.Entries.{on_side}
use Rattle.book.specs.declared.MsgKind.{MsgKind}
use Rattle.book.specs.declared.MsgKind.TheVariants.{Cancel, Activate, Expire}
use Rattle.book.specs.declared.VenueMsg.{VenueMsg}
use Rattle.book.specs.declared.config.KernelTick.{KernelTick}
use Rattle.rules.proofs.Sample.{config, start, rows}
use Rattle.text.specs.Bytes.{bytes}
use Rattle.text.specs.Fields.{parted, are_digits, value, number}
use Rattle.runline.specs.Lines.{side_of, config_line, queue_line, fill_line, order_line, cancel_line, row_line, line_of}
use Rattle.runtake.specs.Take.{Reading, blank_reading, take_config, take_fill, is_message_due, reserved, queued, take_order, marked, marked_in, take_cancel, take_row, take_line, take_text}
use Rattle.runtext.specs.declared.Fault.{Fault}
use Rattle.runtext.specs.declared.Fault.TheVariants.{TooLong, Line, Retired}
use Rattle.runtext.specs.Read.{seeded, start_state, script_of, Read, unless_retired, closing, read_parts, read_lines, read_text}

-- with room for the words of 512 rows, as `replay` lends it
abbrev pub read : String → Read
read s = read_text (bytes s) (replicate 2560 0)

-- to unfold it is to unfold the reading
unfoldable pub fault_of : String → Option Fault
unfolding pick fits fitting on_some live insert_at before placed put_at on_side parted are_digits value number side_of config_line queue_line fill_line order_line cancel_line row_line line_of take_config take_fill is_message_due reserved queued take_order marked marked_in take_cancel take_row take_line take_text seeded start_state script_of unless_retired closing read_parts read_lines read_text
fault_of s = (read s).fault

-- the first bad line
bad : ℕ → Option Fault
bad n = Some (Line n)

-- n times the same line
times : ℕ → String → String
times zero s = ""
times (suc n) s = s then times n s

-- a file with these lines behind the first two
from : String → String
from s = "c 1 1 1 1 0 1\nf now\n" then s

is_marked : MsgKind → Bool
is_marked (Cancel i) = false
is_marked (Activate o life) = o.cancel_inflight
is_marked (Expire i) = false

-- of a queued message: its time, its number, and whether a cancel is in flight
record Queued : Type 0 where
  eff : ℕ
  seq : ℕ
  mark : Bool

brief : VenueMsg → Queued
brief m = record { eff = m.eff_ns; seq = m.seq; mark = is_marked m.kind }

full : ℕ → Reading
full n = record (blank_reading []) { rows = n }

tick : KernelTick
tick = record { ts_ns = 1; bid = 1; bid_lots = 1; ask = 1; ask_lots = 1 }

-- document 01's sample: the configuration, the state and the row with which `rules` runs it
pub sample : read "c 1000 0 1 0 7 9\nf now\no 10 1 B 101 5 0\nr 20 99 4 101 6\n" ≡ record { fault = None; script = record { cfg = config; state = start; rows = 1 }; words = rows ++ replicate 2555 0 }
unfolding fault_of
sample = refl

examples :
    -- the first two lines: absent, not ended, of too few fields, with a space too many, in another order
    (map fault_of ("" ∷ "c 1 1 1 1 1 1\n" ∷ "c 1 1 1 1 1 1\nf now" ∷ "c 1 1 1 1 1\nf now\n" ∷ "c 1 1 1 1 1  1\nf now\n" ∷ "f now\nc 1 1 1 1 1 1\n" ∷ "c 1 1 1 1 1 1\nf queue 1 2\n" ∷ [])
    ≡ map bad (1 ∷ 2 ∷ 2 ∷ 1 ∷ 1 ∷ 1 ∷ 2 ∷ []))
    -- no row at all; an empty line; a row not ended; an order behind a row; no side
    × (map (λ s. fault_of (from s)) ("" ∷ "\n" ∷ "r 1 1 1 1 1" ∷ "r 1 1 1 1 1\no 1 1 B 1 1 0\n" ∷ "o 1 1 b 1 1 0\n" ∷ []) ≡ None ∷ map bad (3 ∷ 3 ∷ 4 ∷ 3 ∷ []))
    -- eight orders and the ninth; sixteen messages and the seventeenth; all quantities past 64 bits
    × (map (λ s. fault_of (from s)) (times 8 "o 1 1 B 1 1 0\n" ∷ times 9 "o 1 1 B 1 1 0\n" ∷ times 16 "x 1 1\n" ∷ times 17 "x 1 1\n" ∷ "o 1 1 B 1 18446744073709551615 0\n" ∷ "o 1 1 B 1 18446744073709551615 0\no 1 1 S 1 1 0\n" ∷ [])
    ≡ None ∷ bad 11 ∷ None ∷ bad 19 ∷ None ∷ bad 4 ∷ [])
    -- 512 rows and one more
    × (map (λ n. is_some (take_row 2 tick (full n))) (511 ∷ 512 ∷ []) ≡ true ∷ false ∷ [])
    -- an x marks the orders before it, by line and not by time; each line takes the next number
    × (map brief (take 3 (read (from "o 9 7 B 1 1 0\nx 5 7\no 3 7 S 1 1 0\n")).script.state.msgs.slots)
    ≡ record { eff = 3; seq = 2; mark = false } ∷ record { eff = 5; seq = 1; mark = false } ∷ record { eff = 9; seq = 0; mark = true } ∷ [])
    -- N11: a file with a minimum, of one row and of none; with a bad line behind it, which alone is told: one of no kind, one not ended, a second `f`; without a minimum
    × (map (λ s. fault_of ("c 1 1 1 1 0 1\nf queue 3 2 " then s)) ("1\nr 1 1 1 1 1\n" ∷ "18446744073709551615\n" ∷ "1\ny\n" ∷ "1\nr 1 1 1 1 1" ∷ "1\nf queue 3 2 0\n" ∷ "0\n" ∷ [])
    ≡ Some Retired ∷ Some Retired ∷ bad 3 ∷ bad 3 ∷ bad 3 ∷ None ∷ [])
    -- the seed 0
    × ((read (from "")).script.state.rng_latency ≡ 0x9E3779B97F4A7C15)
unfolding fault_of bad times from is_marked brief full tick
examples = (refl, refl, refl, refl, refl, refl, refl)

-- "at most 65,536 bytes"; "file too long ..: 0"
pub too_long : (text words : List ℕ) → 65536 < length text → (read_text text words).fault ≡ Some TooLong
unfolding read_text read_lines pick
too_long text words h = rw (lt-leb (length text) 65536 h)
