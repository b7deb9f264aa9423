-- What `replay` prints of a run text, from its first line to the last, by document 01: one call at a time.
use Rattle.std.specs.Prelude.{ℕ, zero, suc, ◌*◌, Bool, false, List, ◌++◌, eqb, take, replicate, Option, Some, None}
use Rattle.numbers.specs.Choice.{pick}
use Rattle.state.specs.Numbers.{is_terminal_phase}
use Rattle.book.specs.declared.config.Config.{Config}
use Rattle.state.specs.declared.KernelState.{KernelState}
use Rattle.rules.specs.Calls as calls
use Rattle.lines.specs.Print.{call_text, filled_after, last_line, bad_line, retired_line}
use Rattle.runtext.specs.declared.Fault.{Fault}
use Rattle.runtext.specs.declared.Fault.TheVariants.{TooLong, Line, Retired}
use Rattle.runtext.specs.Read.{Read, read_text}

-- "The log is 512 records"
abbrev pub empty_log : List ℕ
empty_log = replicate 6144 0

-- "until Terminal": whether the run goes on behind a call that left s. It ends at Terminal, and where the pass is refused
unfoldable pub has_more : KernelState → Bool
has_more s = pick (is_terminal_phase s.control.phase) false (eqb (calls.refusal_of (calls.pass s).did) 0)

-- the state behind that call, passed unless it is Terminal
unfoldable pub passed_on : KernelState → KernelState
passed_on s = pick (is_terminal_phase s.control.phase) s (calls.pass s).state

-- "Last: venue position, live buy and sell, and" the lots filled, N2's sum over the printed reports
abbrev pub last_of : KernelState → ℕ → List ℕ
last_of s filled = last_line s.gate.venue_pos.lots s.gate.live_buy_lots s.gate.live_sell_lots filled

-- "It advances and passes until Terminal": the events of each advance are printed, one line each, then the last line. At most so many turns: from step 0 a run has at most 2^64, and of 512 rows at most 513, since each turn but the last pauses at a row's observation
unfoldable pub turns_from : ℕ → Config → List ℕ → KernelState → ℕ → List ℕ
turns_from zero c rows s filled = last_of s filled
turns_from (suc n) c rows s filled =
    let a : calls.Result = calls.returned empty_log (calls.advance c rows s) in
    let sum : ℕ = filled_after filled a.log a.count a.count in
    call_text a.log a.count a.count ++ pick (has_more a.state) (turns_from n c rows (passed_on a.state) sum) (last_of (passed_on a.state) sum)

-- "file too long ..: 0"; "prints `bad N` .. and nothing else"; N11, "prints `retired N` with the line number and nothing runs": the `f` line is the second
unfoldable pub fault_line : Fault → List ℕ
fault_line TooLong = bad_line 0
fault_line (Line n) = bad_line n
fault_line Retired = retired_line 2

-- of a text that is not run this alone is printed
unfoldable pub unless_faulty : Option Fault → List ℕ → List ℕ
unless_faulty None run = run
unless_faulty (Some f) run = fault_line f

-- what is printed of a text: it is read into the words of 512 rows, and those of its own rows are run
unfoldable pub replayed : ℕ → List ℕ → List ℕ
replayed turns text =
    let r : Read = read_text text (replicate 2560 0) in
    unless_faulty r.fault (turns_from turns r.script.cfg (take (r.script.rows * 5) r.words) r.script.state 0)
