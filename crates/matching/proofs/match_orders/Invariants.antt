-- `matching::match_orders` meets its contract: from each place on, the rest of the pass gives what the whole gives. Assumes nothing.
use Rattle.std.proofs.Common.{◌≡◌, ◌-◌}
use Rattle.rules.specs.Matching.{match_from}
use Rattle.reports.specs.Log.{log_of, expected}
use Rattle.matching.proofs.match_orders.Given as goal

abbrev pub invariant-loop-index : goal.invariant-loop-index
invariant-loop-index l =
    expected (log_of l.log) (match_from l.cfg l.row (l.looks - l.index) l.index l.s) ≡ expected (log_of l.initial.log) (match_from l.cfg l.row l.initial.s.orders.count 0 l.initial.s)
