-- `phases::obs_queued` meets its contract: the row's end, then the next row. Assumes nothing.
use Rattle.rules.specs.Phases.{obs_queued}
use Rattle.reports.proofs.Then.{hands_stop, then_on, then_stop}
use Rattle.phases.proofs.obs_queued.Goals as goal

pub returns-in_err-settle : goal.returns-in_err-settle
unfolding obs_queued
returns-in_err-settle c = hands_stop c.from_residual.ensures (then_stop _ _ _ c.in_err-settle.ensures)

pub returns : goal.returns
unfolding obs_queued
returns c = then_on _ _ _ c.in_ok-settle.ensures c.next_row.ensures
