-- `matching::fill_at` meets its contract. Assumes nothing.
use Rattle.reports.proofs.Then.{hands_on}
use Rattle.matching.proofs.Fills.{fill_stopped, fill_reported}
use Rattle.matching.proofs.fill_at.Goals as goal

pub returns-in_err-stamped : goal.returns-in_err-stamped
returns-in_err-stamped c = hands_on _ c.from_residual.ensures (fill_stopped _ _ _ _ _ _ _ _ c.in_err-stamped.ensures.rule)

pub returns : goal.returns
returns c =
    fill_reported _ _ _ _ _ _ _ _ c.store.result c.in_ok-stamped.ensures.rule c.in_ok-stamped.ensures.answer c.filled_by-filled.ensures c.fill_kind-kind.ensures
    c.status_report-report.ensures c.store.ensures c.queue_delivery.ensures
