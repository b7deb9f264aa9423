-- The two calls, and 'Refused or halted'.
use Rattle.std.specs.Prelude.{ℕ, ◌+◌, ◌%◌, Bool, true, false, ◌&&◌, List, [], ◌∷◌, ◌++◌, leb, eqb, length, Option, Some, None}
use Rattle.numbers.specs.Choice.{pick, on_some}
use Rattle.numbers.specs.Words.{fitting}
use Rattle.book.specs.Capacities.{orders_capacity, msgs_capacity, deliveries_capacity, observed_capacity, account_capacity}
use Rattle.book.specs.Modes.{has_minimum}
use Rattle.state.specs.With.{with_control, with_counters, control_phase, control_step, control_status, counters_halts}
use Rattle.book.specs.declared.VenueMsg.{VenueMsg}
use Rattle.book.specs.declared.config.Config.{Config}
use Rattle.state.specs.declared.HaltReason.{HaltReason}
use Rattle.state.specs.declared.KernelEvent.{KernelEvent}
use Rattle.state.specs.declared.KernelEvent.TheVariants.{Halted}
use Rattle.state.specs.declared.KernelState.{KernelState}
use Rattle.state.specs.declared.Phase.{Phase}
use Rattle.state.specs.declared.Phase.TheVariants.{BeforeMatch, ObsQueued, AwaitDecision, Terminal}
use Rattle.state.specs.declared.Status.TheVariants as status
use Rattle.rules.specs.Run.{Outcome, Run, ran, left, halt, ended}
use Rattle.rules.specs.Log.{written}
use Rattle.rules.specs.Phases.{phases}

-- what a call did: it is refused, with the number of 'Refused or halted', or it ran and neither halted nor ended the data, or it took one of these two steps itself
pub data Did : Type 0 where
  refused : ℕ → Did
  stays : Did
  halts : HaltReason → Did
  ends : List VenueMsg → Did

-- what a call gives, of whatever log
pub record Answer : Type 0 where
  pub did : Did
  pub state : KernelState
  pub events : List KernelEvent

-- "Refusals (101 up) return the state unchanged, the log untouched, count 0."
abbrev pub refuse : ℕ → KernelState → Answer
refuse n s = record { did = refused n; state = s; events = [] }

-- "Halts set status, Terminal, `halts` to 1, write event 7 and keep all done before."
abbrev pub halted : HaltReason → KernelState → KernelState
halted h s = with_counters (with_control s (control_status (control_phase s.control Terminal) (status.Halted h))) (counters_halts s.counters 1)

-- a halt's event stands behind all else; every other end has raised its own
abbrev pub answer_on : Outcome → KernelState → List KernelEvent → Answer
answer_on ran s es = record { did = stays; state = s; events = es }
answer_on left s es = record { did = stays; state = s; events = es }
answer_on (halt h) s es = record { did = halts h; state = halted h s; events = es ++ Halted h ∷ [] }
answer_on (ended ms) s es = record { did = ends ms; state = s; events = es }

-- the run of a call, answered
unfoldable pub answer : Run → Answer
answer r = answer_on r.outcome r.state r.events

-- "both entries, next: a list count above capacity: 102"
unfoldable pub counts_fit : KernelState → Bool
counts_fit s =
    leb s.orders.count orders_capacity && leb s.msgs.count msgs_capacity && leb s.awaiting.count orders_capacity
    && leb s.deliveries.count deliveries_capacity && leb s.observed.count observed_capacity && leb s.account.count account_capacity

-- what `advance` refuses, in order, of rows of so many words; none where the call runs. "advance entry: row words not a multiple of 5: 101"; N11, "115 if the minimum is above 0, after 102"
unfoldable pub entry_refusal : Config → ℕ → KernelState → Option ℕ
entry_refusal c words s =
    pick (eqb (words % 5) 0)
    (pick (counts_fit s)
    (pick (has_minimum c.fill) (Some 115) None)
    (Some 102))
    (Some 101)

-- a call is refused, or goes through its phases
unfoldable pub advance : Config → List ℕ → KernelState → Answer
advance c rows s = on_some (entry_refusal c (length rows) s) (λ n. refuse n s) (answer (phases c rows s))

-- "103: not AwaitDecision"
abbrev pub is_paused : Phase → Bool
is_paused BeforeMatch = false
is_paused ObsQueued = false
is_paused AwaitDecision = true
is_paused Terminal = false

-- "104: resume neither BeforeMatch nor ObsQueued"
abbrev pub can_resume : Phase → Bool
can_resume BeforeMatch = true
can_resume ObsQueued = true
can_resume AwaitDecision = false
can_resume Terminal = false

-- "`pass`, no action at a pause: `step` rises by one, the phase becomes `resume`."
abbrev pub passed : ℕ → KernelState → Answer
passed n s = record { did = stays; state = with_control s (control_phase (control_step s.control n) s.control.resume); events = [] }

-- "pass, in order: not AwaitDecision; resume neither BeforeMatch nor ObsQueued; step 2^64 − 1: 103; 104; 105"
unfoldable pub pass : KernelState → Answer
pass s =
    pick (counts_fit s)
    (pick (is_paused s.control.phase)
    (pick (can_resume s.control.resume)
    (on_some (fitting (s.control.step + 1)) (λ n. passed n s) (refuse 105 s))
    (refuse 104 s))
    (refuse 103 s))
    (refuse 102 s)

-- the refusal's number, or 0 where the call ran: a halt and the end of data are in the state and the log, and are no refusals
abbrev pub refusal_of : Did → ℕ
refusal_of (refused n) = n
refusal_of stays = 0
refusal_of (halts h) = 0
refusal_of (ends ms) = 0

-- what the caller is handed: the answer as a number, the state, the log that it lent, and "the answer counts all events raised"
pub record Result : Type 0 where
  pub answer : ℕ
  pub state : KernelState
  pub log : List ℕ
  pub count : ℕ

-- what a call returns to a caller who lent this log
abbrev pub returned : List ℕ → Answer → Result
returned log a = record { answer = refusal_of a.did; state = a.state; log = written log a.events; count = length a.events }
