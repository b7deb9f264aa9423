-- `reports::report::queue_delivery` meets its contract. Assumes nothing.
use Rattle.std.specs.Prelude.{Ok, Err}
use Rattle.reports.proofs.Then.{hands_on}
use Rattle.reports.proofs.Reports.{report_late, report_sent}
use Rattle.reports.proofs.report.queue_delivery.Goals as goal

pub returns-in_err-delayed : goal.returns-in_err-delayed
returns-in_err-delayed c = hands_on _ c.from_residual.ensures (report_late _ _ _ _ _ _ c.in_err-delayed.ensures)

pub returns-in_err-push : goal.returns-in_err-push
returns-in_err-push c =
    hands_on _ c.from_residual-in_err-push.ensures (report_sent _ _ _ _ _ _ (Err _) c.in_ok-delayed.ensures c.max-at_ns.ensures c.emit.ensures c.in_err-push.was c.push.ensures)

pub returns : goal.returns
returns c = report_sent _ _ _ _ _ _ (Ok tt) c.in_ok-delayed.ensures c.max-at_ns.ensures c.emit.ensures c.in_ok-push.was c.push.ensures
