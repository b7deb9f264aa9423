-- What a call leaves, and what a caller of `run` is handed: what the code gives, its answer read as the paper's number.
use Rattle.std.specs.Prelude.{ℕ, Bool, List}
use Rattle.state.specs.declared.KernelState.{KernelState}
use Rattle.rules.specs.Calls.{Answer}
use Rattle.rules.specs.Batch.{is_stay, BatchResult}
use Rattle.reports.specs.Log.{Logged, append_events}
use Rattle.entry.specs.Entry.{answer_number}
use Rattle.batch.specs.declared.Advanced.{Advanced}

-- what a call that is not refused leaves: whether it neither halted nor ended the data, the state, and the log
pub record Called : Type 0 where
  pub stays : Bool
  pub state : KernelState
  pub log : Logged

-- what the code gives
abbrev pub called : Bool → KernelState → Logged → Called
called b s l = record { stays = b; state = s; log = l }

-- what the rules give, their events appended behind those of the log
unfoldable pub told : Logged → Answer → Called
told l a = record { stays = is_stay a.did; state = a.state; log = append_events l a.events }

-- what `run` gives, with the log that it left
abbrev pub actual_run : Advanced → List ℕ → BatchResult
actual_run a log = record { answer = answer_number a.answer; state = a.state; log = log; count = a.events; last = a.last }
