-- `walk::run_events` meets its contract: the rest of the walk, behind the events that were handled, is the whole. Its weight falls with each event. Assumes nothing.
use mathlib.Core.Path.{◌≡◌}
use Rattle.rules.specs.Events.{weight, run_events}
use Rattle.reports.specs.Log.{log_of, expected}
use Rattle.walk.proofs.run_events.Given as goal

abbrev pub invariant-loop-due : goal.invariant-loop-due
invariant-loop-due l = expected (log_of l.log) (run_events l.cfg l.limit l.s) ≡ expected (log_of l.initial.log) (run_events l.cfg l.limit l.initial.s)

abbrev pub decreases-loop-due : goal.decreases-loop-due
decreases-loop-due l = weight l.s
