-- `deeds::activation::accept` meets its contract. Assumes nothing.
use Rattle.std.specs.Prelude.{Ok, Err}
use Rattle.rules.specs.Messages.{accept}
use Rattle.reports.proofs.Then.{hands_on, quiet, quiet_on, quiet_stop, then_on, then_stop}
use Rattle.deeds.proofs.Deeds.{booked_run}
use Rattle.deeds.proofs.activation.accept.Goals as goal

pub returns-in_err-report : goal.returns-in_err-report
unfolding accept
returns-in_err-report c at h = hands_on _ c.from_residual.ensures (then_stop _ _ _ (c.in_err-report.ensures at h))

pub returns-in_err-push : goal.returns-in_err-push
unfolding accept
returns-in_err-push c at h =
    hands_on _ c.from_residual-in_err-push.ensures
    (then_on _ _ _ (c.in_ok-report.ensures at h) (quiet_stop _ _ _ (booked_run _ _ (Err _) c.in_err-push.was c.push.ensures)))

pub returns : goal.returns
unfolding accept
returns c at h =
    then_on _ _ _ (c.in_ok-report.ensures at h)
    (quiet_on _ _ _ (booked_run _ _ (Ok tt) c.in_ok-push.was c.push.ensures) (quiet _ _ _ c.schedule_expiry.ensures))
