-- `deeds::cancel::cancel` meets its contract. Assumes nothing.
use Rattle.numbers.specs.Choice.{on_some}
use Rattle.rules.specs.Messages.{cancel}
use Rattle.reports.proofs.Then.{hands_on, ran_here, quiet_on, quiet_stop}
use Rattle.deeds.proofs.cancel.cancel.Goals as goal

pub returns-in_err-stamped : goal.returns-in_err-stamped
unfolding cancel
returns-in_err-stamped c = hands_on _ c.from_residual.ensures (quiet_stop _ _ _ c.in_err-stamped.ensures.rule)

pub returns-in-Some : goal.returns-in-Some
unfolding cancel on_some
returns-in-Some c = let e = c.in_ok-stamped.ensures in quiet_on _ _ _ e.rule (rw (← c.in-Some.ensures) (c.cancel_booked.ensures _ e.answer))

pub returns-in-Some-activation : goal.returns-in-Some-activation
unfolding cancel on_some
returns-in-Some-activation c =
    let e = c.in_ok-stamped.ensures in
    quiet_on _ _ _ e.rule (rw (← c.in_default.ensures, ← c.in-Some-activation.ensures) (c.cancel_activation.ensures _ e.answer))

pub returns-in-Some-position : goal.returns-in-Some-position
unfolding cancel on_some
returns-in-Some-position c =
    let e = c.in_ok-stamped.ensures in
    quiet_on _ _ _ e.rule (rw (← c.in_default.ensures, ← c.in_default-activation.ensures, ← c.in-Some-position.ensures) (c.cancel_awaiting.ensures _ e.answer))

pub returns : goal.returns
unfolding cancel on_some
returns c =
    quiet_on _ _ _ c.in_ok-stamped.ensures.rule
    (rw (← c.in_default.ensures, ← c.in_default-activation.ensures, ← c.in_default-position.ensures) (ran_here _ _))
