-- `deeds::cancel::cancel_awaiting` meets its contract. Assumes nothing.
use mathlib.Core.Path.{refl}
use Rattle.state.specs.With.{with_awaiting}
use Rattle.rules.specs.Messages.{cancel_awaiting}
use Rattle.reports.proofs.Then.{take_on, took_none}
use Rattle.deeds.proofs.cancel.cancel_awaiting.Goals as goal

pub returns-in_default : goal.returns-in_default
unfolding cancel_awaiting
returns-in_default c at h = let s = c.args.s.now in took_none _ _ _ _ _ (with_awaiting s) s _ refl c.in_default.is c.remove.ensures

pub returns : goal.returns
unfolding cancel_awaiting
returns c at h = take_on _ _ _ _ c.in-Some.is c.remove.ensures (c.report.ensures at h)
