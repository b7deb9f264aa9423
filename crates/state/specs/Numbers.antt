-- The paper's number of each halt and refusal, and which phase is the last.
use Rattle.std.specs.Prelude.{ℕ, Bool, true, false}
use Rattle.state.specs.declared.HaltReason.{HaltReason}
use Rattle.state.specs.declared.HaltReason.TheVariants.{LedgerOverflow, TimeOverflow, CounterOverflow}
use Rattle.state.specs.declared.Phase.{Phase}
use Rattle.state.specs.declared.Phase.TheVariants.{BeforeMatch, ObsQueued, AwaitDecision, Terminal}
use Rattle.state.specs.declared.Refusal.{Refusal}
use Rattle.state.specs.declared.Refusal.TheVariants.{RowWords, ListCount, NotPaused, NoResume, StepLimit, QueueMinimum}

-- the halts of 'Refused or halted'
abbrev pub halt_number : HaltReason → ℕ
halt_number LedgerOverflow = 5
halt_number TimeOverflow = 6
halt_number CounterOverflow = 7

-- the refusals of 'Refused or halted', 101 up
abbrev pub refusal_number : Refusal → ℕ
refusal_number RowWords = 101
refusal_number ListCount = 102
refusal_number NotPaused = 103
refusal_number NoResume = 104
refusal_number StepLimit = 105
refusal_number QueueMinimum = 115

-- whether the run is over
abbrev pub is_terminal_phase : Phase → Bool
is_terminal_phase BeforeMatch = false
is_terminal_phase ObsQueued = false
is_terminal_phase AwaitDecision = false
is_terminal_phase Terminal = true
