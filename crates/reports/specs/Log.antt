-- For the inner functions: the log under way, and what a step leaves. `actual` is what the code gives, `expected` what the rules give with their events appended to the log.
use Rattle.std.specs.Prelude.{ℕ, ◌+◌, ◌*◌, min, List, [], ◌∷◌, ◌++◌, ltb, take, drop, Result, Ok, Err}
use Rattle.numbers.specs.Choice.{pick}
use Rattle.state.specs.declared.HaltReason.{HaltReason}
use Rattle.state.specs.declared.KernelEvent.{KernelEvent}
use Rattle.state.specs.declared.KernelState.{KernelState}
use Rattle.rules.specs.Run as rules
use Rattle.rules.specs.Log.{written}
use Rattle.reports.specs.declared.Stop.{Stop}
use Rattle.reports.specs.declared.Stop.TheVariants.{Left, Halt, Ended}
use Rattle.reports.specs.declared.log.Log.{Log}

-- the largest number of 64 bits
abbrev pub top : ℕ
top = 18446744073709551615

-- a log: its words, how many events were raised, and whose slice it is
pub record Logged : Type 0 where
  pub words : List ℕ
  pub count : ℕ
  pub lender : ℕ

-- the code's log as one
abbrev pub log_of : Log → Logged
log_of l = record { words = l.words.now; count = l.raised; lender = l.words.ghost_name }

-- the event behind the others: its writer gets the rest of the log. The count stays at its largest number, which a call never reaches
unfoldable pub append_event : Logged → KernelEvent → Logged
append_event l e = record {
  words = pick (ltb l.count top) (take (l.count * 12) l.words ++ written (drop (l.count * 12) l.words) (e ∷ [])) l.words;
  count = min (l.count + 1) top;
  lender = l.lender;
}

-- events one by one
unfoldable pub append_events : Logged → List KernelEvent → Logged
append_events l [] = l
append_events l (e ∷ es) = append_events (append_event l e) es

-- how a step went: the code does not carry the messages that end of data dropped
abbrev pub outcome_of : rules.Outcome → Result (Unit {0}) Stop
outcome_of rules.ran = Ok tt
outcome_of rules.left = Err Left
outcome_of (rules.halt h) = Err (Halt h)
outcome_of (rules.ended ms) = Err Ended

-- what a step leaves: how it went, the state, and the log
pub record StepResult : Type 0 where
  pub outcome : Result (Unit {0}) Stop
  pub state : KernelState
  pub log : Logged

-- what the rules give, their events appended behind those of the log
unfoldable pub expected : Logged → rules.Run → StepResult
expected l r = record { outcome = outcome_of r.outcome; state = r.state; log = append_events l r.events }

-- what the code gives
abbrev pub actual : Result (Unit {0}) Stop → KernelState → Logged → StepResult
actual r s l = record { outcome = r; state = s; log = l }

-- a step that runs or halts, as one of all steps
abbrev pub halting : {A : Type 0} → Result A HaltReason → Result (Unit {0}) Stop
halting (Ok x) = Ok tt
halting (Err h) = Err (Halt h)

-- what the code gives of a step that raises no event, and runs or halts
abbrev pub run_of : {A : Type 0} → Result A HaltReason → KernelState → rules.Run
run_of (Ok x) s = rules.ran_to s
run_of (Err h) s = rules.halt_at h s
