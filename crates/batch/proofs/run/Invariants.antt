use Rattle.std.proofs.Common.{◌-◌}
use Rattle.reports.specs.Log.{log_of}
use Rattle.batch.proofs.Batch.{Made}
use Rattle.batch.proofs.run.Given as goal

-- what the calls so far left, and that the rest of the batch follows them
abbrev pub invariant-loop : goal.invariant-loop
invariant-loop l = Made l.cfg l.rows l.fn.log l.initial.log.words.ghost_name l.passes l.fn.state (l.passes - l.counter) l.before l.stays l.state (log_of l.log)
