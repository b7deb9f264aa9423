-- `deeds::activation::activate` meets its contract. Assumes nothing.
use Rattle.numbers.specs.Choice.{pick}
use Rattle.rules.specs.Messages.{activate}
use Rattle.reports.proofs.Then.{hands_on, quiet_on, quiet_stop}
use Rattle.deeds.proofs.activation.activate.Goals as goal

pub returns-in_err-stamped : goal.returns-in_err-stamped
unfolding activate
returns-in_err-stamped c = hands_on _ c.from_residual.ensures (quiet_stop _ _ _ c.in_err-stamped.ensures.rule)

pub returns-then-is_valid : goal.returns-then-is_valid
unfolding activate pick
returns-then-is_valid c =
    let e = c.in_ok-stamped.ensures in
    quiet_on _ _ _ e.rule (rw (← c.if-is_valid.ensures, ← c.in_state.ensures) (c.accept.ensures _ e.answer))

pub returns-else-is_valid : goal.returns-else-is_valid
unfolding activate pick
returns-else-is_valid c =
    let e = c.in_ok-stamped.ensures in
    quiet_on _ _ _ e.rule (rw (← c.if-is_valid.ensures, ← c.in_state-else-is_valid.ensures) (c.reject.ensures _ e.answer))
