-- `phases::queue_observation` meets its contract, by the laws of `Exits`. Assumes nothing.
use Rattle.reports.proofs.Then.{hands_on_quiet}
use Rattle.phases.proofs.Exits.{observed_late, observed_full, observed_in}
use Rattle.phases.proofs.queue_observation.Goals as goal

pub returns-in_err-at_ns : goal.returns-in_err-at_ns
returns-in_err-at_ns c = hands_on_quiet _ c.from_residual.ensures (observed_late _ _ _ _ c.in_err-at_ns.ensures)

pub returns-in_err-push : goal.returns-in_err-push
returns-in_err-push c = hands_on_quiet _ c.from_residual-in_err-push.ensures (observed_full _ _ _ _ c.in_ok-at_ns.ensures c.max-ready_ns.ensures c.in_err-push.was c.push.ensures)

pub returns : goal.returns
returns c = observed_in _ _ _ _ c.in_ok-at_ns.ensures c.max-ready_ns.ensures c.in_ok-push.was c.push.ensures
