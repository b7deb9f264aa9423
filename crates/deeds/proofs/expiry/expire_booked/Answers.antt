-- `deeds::expiry::expire_booked` meets its contract. Assumes nothing.
use mathlib.Core.Path.{refl}
use Rattle.state.specs.With.{with_orders}
use Rattle.rules.specs.Messages.{expire_booked}
use Rattle.reports.proofs.Then.{hands_on, quiet, quiet_on, quiet_stop, raise_on, then_on, then_stop, take_on, took_none}
use Rattle.deeds.proofs.expiry.expire_booked.Goals as goal

pub returns-in_default : goal.returns-in_default
unfolding expire_booked
returns-in_default c at h = let s = c.args.s.now in took_none _ _ _ _ _ (with_orders s) s _ refl c.in_default.is c.remove.ensures

pub returns-in_err-release : goal.returns-in_err-release
unfolding expire_booked
returns-in_err-release c at h = hands_on _ c.from_residual.ensures (take_on _ _ _ _ c.in-Some.is c.remove.ensures (quiet_stop _ _ _ c.in_err-release.ensures))

pub returns-in_err-report : goal.returns-in_err-report
unfolding expire_booked
returns-in_err-report c at h =
    hands_on _ c.from_residual-in_err-report.ensures
    (take_on _ _ _ _ c.in-Some.is c.remove.ensures (quiet_on _ _ _ c.in_ok-release.ensures (raise_on _ _ _ _ _ c.emit.ensures (then_stop _ _ _ (c.in_err-report.ensures at h)))))

pub returns : goal.returns
unfolding expire_booked
returns c at h =
    take_on _ _ _ _ c.in-Some.is c.remove.ensures
    (quiet_on _ _ _ c.in_ok-release.ensures (raise_on _ _ _ _ _ c.emit.ensures (then_on _ _ _ (c.in_ok-report.ensures at h) (quiet _ _ _ (rw (← c.in_state.ensures) c.await_marked.ensures)))))
