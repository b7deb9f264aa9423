use Rattle.std.proofs.Common.{◌≡◌}
use Rattle.rules.specs.Phases.{phases, turns}
use Rattle.reports.specs.Log.{log_of, expected}
use Rattle.phases.proofs.phases.Given as goal

-- the phases from here, behind what the log has, are all the phases
abbrev pub invariant-phases : goal.invariant-phases
invariant-phases l = expected (log_of l.log) (phases l.cfg l.rows l.s) ≡ expected (log_of l.fn.log) (phases l.cfg l.rows l.fn.s)

abbrev pub decreases-phases : goal.decreases-phases
decreases-phases l = turns l.rows l.s
