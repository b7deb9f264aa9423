-- `deeds::cancel::cancel_booked` meets its contract. Assumes nothing.
use mathlib.Core.Path.{refl}
use Rattle.rules.specs.Messages.{cancel_booked}
use Rattle.state.specs.With.{with_orders}
use Rattle.reports.proofs.Then.{hands_on, quiet_on, quiet_stop, take_on, took_none}
use Rattle.deeds.proofs.cancel.cancel_booked.Goals as goal

pub returns-in_default : goal.returns-in_default
unfolding cancel_booked
returns-in_default c at h = let s = c.args.s.now in took_none _ _ _ _ _ (with_orders s) s _ refl c.in_default.is c.remove.ensures

pub returns-in_err-release : goal.returns-in_err-release
unfolding cancel_booked
returns-in_err-release c at h = hands_on _ c.from_residual.ensures (take_on _ _ _ _ c.in-Some.is c.remove.ensures (quiet_stop _ _ _ c.in_err-release.ensures))

pub returns : goal.returns
unfolding cancel_booked
returns c at h =
    take_on _ _ _ _ c.in-Some.is c.remove.ensures (quiet_on _ _ _ c.in_ok-release.ensures (rw (← c.remove_expiry.ensures) (c.report.ensures at h)))
