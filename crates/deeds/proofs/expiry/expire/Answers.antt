-- `deeds::expiry::expire` meets its contract. Assumes nothing.
use Rattle.numbers.specs.Choice.{on_some}
use Rattle.rules.specs.Messages.{expire}
use Rattle.reports.proofs.Then.{hands_on, ran_here, quiet_on, quiet_stop}
use Rattle.deeds.proofs.expiry.expire.Goals as goal

pub returns-in_default : goal.returns-in_default
unfolding expire on_some
returns-in_default c = rw (← c.in_default.ensures) (ran_here _ _)

pub returns-in_err-stamped : goal.returns-in_err-stamped
unfolding expire on_some
returns-in_err-stamped c = hands_on _ c.from_residual.ensures (rw (← c.in-Some.ensures) (quiet_stop _ _ _ c.in_err-stamped.ensures.rule))

pub returns : goal.returns
unfolding expire on_some
returns c =
    let e = c.in_ok-stamped.ensures in
    rw (← c.in-Some.ensures) (quiet_on _ _ _ e.rule (c.expire_booked.ensures _ e.answer))
