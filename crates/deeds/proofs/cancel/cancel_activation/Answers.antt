-- `deeds::cancel::cancel_activation` meets its contract. Assumes nothing.
use mathlib.Core.Path.{refl}
use Rattle.state.specs.With.{with_msgs}
use Rattle.rules.specs.Messages.{cancel_activation}
use Rattle.reports.proofs.Then.{hands_on, ran_here, quiet_on, quiet_stop, take_on, took_none}
use Rattle.deeds.proofs.Deeds.{not_activation}
use Rattle.deeds.proofs.cancel.cancel_activation.Goals as goal

pub returns-in_default : goal.returns-in_default
unfolding cancel_activation
returns-in_default c at h = let s = c.args.s.now in took_none _ _ _ _ _ (with_msgs s) s _ refl c.in_default.is c.remove.ensures

pub returns-in_default-kind : goal.returns-in_default-kind
unfolding cancel_activation
returns-in_default-kind c at h = take_on _ _ _ _ c.in-Some.is c.remove.ensures (not_activation _ _ _ _ c.in_default-kind.not-Activate (ran_here _ _))

pub returns-in_err-release : goal.returns-in_err-release
unfolding cancel_activation
returns-in_err-release c at h =
    hands_on _ c.from_residual.ensures (take_on _ _ _ _ c.in-Some.is c.remove.ensures (rw c.in-Activate.is (quiet_stop _ _ _ c.in_err-release.ensures)))

pub returns : goal.returns
unfolding cancel_activation
returns c at h = take_on _ _ _ _ c.in-Some.is c.remove.ensures (rw c.in-Activate.is (quiet_on _ _ _ c.in_ok-release.ensures (c.report.ensures at h)))
