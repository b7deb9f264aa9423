-- `deeds::activation::reject` meets its contract. Assumes nothing.
use Rattle.rules.specs.Messages.{reject}
use Rattle.reports.proofs.Then.{hands_on, quiet, quiet_on, quiet_stop, then_on, then_stop}
use Rattle.deeds.proofs.activation.reject.Goals as goal

pub returns-in_err-release : goal.returns-in_err-release
unfolding reject
returns-in_err-release c at h = hands_on _ c.from_residual.ensures (quiet_stop _ _ _ c.in_err-release.ensures)

pub returns-in_err-report : goal.returns-in_err-report
unfolding reject
returns-in_err-report c at h =
    hands_on _ c.from_residual-in_err-report.ensures (quiet_on _ _ _ c.in_ok-release.ensures (then_stop _ _ _ (c.in_err-report.ensures at h)))

pub returns : goal.returns
unfolding reject
returns c at h =
    quiet_on _ _ _ c.in_ok-release.ensures (then_on _ _ _ (c.in_ok-report.ensures at h) (quiet _ _ _ c.await_marked.ensures))
