-- A run file: its lines, why it is not run, and the state at the start.
use Rattle.std.specs.Prelude.{ℕ, ◌+◌, Bool, true, false, List, [], ◌∷◌, ltb, leb, eqb, pos, length, Option, Some, None, Result, Ok, Err}
use Rattle.numbers.specs.Choice.{pick, on_some}
use Rattle.book.specs.Modes.{has_minimum}
use Rattle.orders.specs.Rows.{empty_orders}
use Rattle.deliveries.specs.Rows.{empty_deliveries}
use Rattle.observed.specs.Rows.{empty_observed}
use Rattle.state.specs.declared.KernelState.{KernelState}
use Rattle.state.specs.declared.Phase.TheVariants.{ObsQueued}
use Rattle.state.specs.declared.Status.TheVariants.{Running}
use Rattle.text.specs.Fields.{parted}
use Rattle.runtake.specs.Take.{Reading, blank_reading, take_text}
use Rattle.runtext.specs.declared.Fault.{Fault}
use Rattle.runtext.specs.declared.Fault.TheVariants.{TooLong, Line, Retired}
use Rattle.runtext.specs.declared.Faulty.{Faulty}
use Rattle.runtext.specs.declared.Script.{Script}

-- ---- the state at the start
-- "seed 0 becomes 0x9E3779B97F4A7C15"
unfoldable pub seeded : ℕ → ℕ
seeded n = pick (eqb n 0) 0x9E3779B97F4A7C15 n

-- "It starts in ObsQueued, no `cur_row`, all counters 0, lots reserved, accounts opened". The messages have taken the first numbers
unfoldable pub start_state : Reading → KernelState
start_state r = record {
  control = record { phase = ObsQueued; resume = ObsQueued; cursor = 0; cur_row = None; step = 0; status = Running };
  clock = record { now_ns = 0; last_delivery_ns = 0; last_observed_ns = 0 };
  rng_latency = seeded r.seed;
  seqs = record { stamp_seq = 0; next_msg_seq = r.msgs.count; next_exec_id = 0 };
  orders = empty_orders;
  msgs = r.msgs;
  awaiting = empty_orders;
  gate = record { venue_pos = record { lots = pos 0 }; live_buy_lots = r.lots.buy; live_sell_lots = r.lots.sell; mark2 = None };
  deliveries = empty_deliveries;
  observed = empty_observed;
  agent = record { pos = record { lots = pos 0 }; last_obs_row = None; delivered_local_rejects = 0; delivered_fills = 0 };
  account = r.account;
  counters = record { halts = 0; venue_fills = 0; eof_dropped_msgs = 0; eof_dropped_obs = 0 };
}

-- ---- the file
unfoldable pub script_of : Reading → Script
script_of r = record { cfg = r.cfg; state = start_state r; rows = r.rows }

-- a file that was read: why it is not run, or none, its run (of a bad file that of the lines above its first bad one), and the words that its rows were read into
pub record Read : Type 0 where
  pub fault : Option Fault
  pub script : Script
  pub words : List ℕ

-- what the code answers
abbrev pub read_of : Result Script Faulty → List ℕ → Read
read_of (Ok s) w = record { fault = None; script = s; words = w }
read_of (Err f) w = record { fault = Some f.fault; script = f.script; words = w }

-- a file that is run, of which this was read
abbrev pub faultless : Reading → Read
faultless r = record { fault = None; script = script_of r; words = r.words }

-- one that is not
abbrev pub faulty : Fault → Reading → Read
faulty f r = record { fault = Some f; script = script_of r; words = r.words }

-- the same of the code that reads the lines
abbrev pub lines_read : Result (Unit {0}) Fault → Reading → Read
lines_read (Ok v) r = faultless r
lines_read (Err f) r = faulty f r

-- nothing is left
abbrev pub is_empty : {A : Type 0} → List A → Bool
is_empty [] = true
is_empty (x ∷ l) = false

-- of "a file with no bad line": N11, "a value above 0 .. prints `retired N` with the line number and nothing runs"
unfoldable pub unless_retired : Reading → Read
unless_retired r = pick (has_minimum r.cfg.fill) (faulty Retired r) (faultless r)

-- what stands behind the last newline, after n lines: a line that is not newline-ended is bad; and with no `c` or no `f`, "absent line: the next number". "`bad N` (from 1 ..)"
unfoldable pub closing : ℕ → Reading → List ℕ → Read
closing n r l = pick (is_empty l) (pick (ltb n 2) (faulty (Line (n + 1)) r) (unless_retired r)) (faulty (Line (n + 1)) r)

-- the parts of the text between its newlines, behind n lines that were read, up to "the first bad line"; the last part stands behind the last newline
unfoldable pub read_parts : ℕ → Reading → List (List ℕ) → Read
read_parts n r [] = closing n r []
read_parts n r (l ∷ ls) = pick (is_empty ls) (closing n r l) (on_some (take_text n l r) (λ t. read_parts (n + 1) t ls) (faulty (Line (n + 1)) r))

-- "at most 65,536 bytes, newline-ended lines"; "file too long ..: 0"
unfoldable pub read_lines : List ℕ → Reading → Read
read_lines text r = pick (leb (length text) 65536) (read_parts 0 r (parted 10 text)) (faulty TooLong r)

-- a whole text, the rows' words going to the front of those that were lent
unfoldable pub read_text : List ℕ → List ℕ → Read
read_text text words = read_lines text (blank_reading words)
