-- A batch of calls: `run` advances and passes by turns while nothing but passing is wanted, up to a number of passes and while the log has room for another call's events.
use Rattle.std.specs.Prelude.{ℕ, zero, suc, ◌+◌, ◌-◌, Bool, true, false, ◌&&◌, List, [], ◌∷◌, ◌++◌, leb, length}
use Rattle.numbers.specs.Choice.{pick}
use Rattle.book.specs.declared.config.Config.{Config}
use Rattle.state.specs.declared.KernelEvent.{KernelEvent}
use Rattle.state.specs.declared.KernelState.{KernelState}
use Rattle.rules.specs.Log.{written}
use Rattle.rules.specs.Calls.{Did, refused, stays, halts, ends, Answer, advance, pass, refusal_of}
use Rattle.rules.specs.Conservation.{Call, advances, passes, result}

-- the records of the log that a call of replay is given by document 01
abbrev pub call_records : ℕ
call_records = 512

-- what a batch gives, of whatever log: what its last call did, the state, the events of all its calls in their order, and how many of them were raised before the last call
pub record Batch : Type 0 where
  pub did : Did
  pub state : KernelState
  pub events : List KernelEvent
  pub before : ℕ

-- a batch whose last call is a, behind the events es
abbrev pub ending : List KernelEvent → Answer → Batch
ending es a = record { did = a.did; state = a.state; events = es ++ a.events; before = length es }

-- whether a call ran and neither halted nor ended the data
abbrev pub is_stay : Did → Bool
is_stay (refused n) = false
is_stay stays = true
is_stay (halts h) = false
is_stay (ends ms) = false

-- whether another call follows the call a: it may be passed, and the log has room for a call's events behind those raised so far
unfoldable pub goes_on : ℕ → List KernelEvent → Answer → Bool
goes_on records es a = is_stay a.did && is_stay (pass a.state).did && leb (length (es ++ a.events) + call_records) records

-- a call, and the calls behind it up to a number of passes, behind the events es
unfoldable pub run_from : Config → List ℕ → ℕ → ℕ → List KernelEvent → KernelState → Batch
run_from c rows records zero es s = ending es (advance c rows s)
run_from c rows records (suc k) es s =
    let a : Answer = advance c rows s in
    pick (goes_on records es a)
    (run_from c rows records k (es ++ a.events) (pass a.state).state)
    (ending es a)

-- a whole batch of at most k passes, with a log of so many records
abbrev pub run : Config → List ℕ → ℕ → ℕ → KernelState → Batch
run c rows records k s = run_from c rows records k [] s

-- what the caller is handed: as of a call, and how many of the events are of the last call
pub record BatchResult : Type 0 where
  pub answer : ℕ
  pub state : KernelState
  pub log : List ℕ
  pub count : ℕ
  pub last : ℕ

-- what a batch returns to a caller who lent this log
abbrev pub returned_run : List ℕ → Batch → BatchResult
returned_run log b = record { answer = refusal_of b.did; state = b.state; log = written log b.events; count = length b.events; last = length b.events - b.before }

-- ---- a batch as a list of calls, of the kind that 'Conservation' speaks of
-- the calls that `run_from` makes, each lent a log of its own
unfoldable pub calls_from : Config → List ℕ → ℕ → ℕ → List KernelEvent → KernelState → List Call
calls_from c rows records zero es s = advances c rows [] ∷ []
calls_from c rows records (suc k) es s =
    let a : Answer = advance c rows s in
    advances c rows [] ∷ pick (goes_on records es a) (passes ∷ calls_from c rows records k (es ++ a.events) (pass a.state).state) []

-- the state that a list of calls leads to
unfoldable pub state_after : List Call → KernelState → KernelState
state_after [] s = s
state_after (c ∷ cs) s = state_after cs (result c s).state
