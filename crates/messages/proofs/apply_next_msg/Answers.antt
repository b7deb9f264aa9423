-- `messages::apply_next_msg` meets its contract. Assumes nothing.
use mathlib.Core.Path.{refl}
use Rattle.std.specs.Prelude.{None}
use Rattle.lists.proofs.Exits as exits
use Rattle.rules.specs.Messages.{apply_next_msg}
use Rattle.reports.proofs.Then.{hands_on, ran_here, halted_here, take_on, take_none}
use Rattle.messages.proofs.First.{would_come, came}
use Rattle.messages.proofs.Tested.{acts-tested}
use Rattle.messages.proofs.apply_next_msg.Goals as goal

pub returns-in_default : goal.returns-in_default
unfolding apply_next_msg
returns-in_default c = take_none _ _ _ _ {a = record { answer = None; stores = 0 }} refl (exits.take_none _ _ _ _ c.in_default.ensures) (ran_here _ _)

pub returns-in_err-expiry : goal.returns-in_err-expiry
unfolding apply_next_msg
returns-in_err-expiry c =
    hands_on _ c.from_residual.ensures (take_on _ _ _ _ (would_come _ _ _ _ c.in-Some.ensures) refl (rw (acts-tested _ _ _ _, ← c.in_err-expiry.ensures) (halted_here _ _ _)))

pub returns-in-Activate : goal.returns-in-Activate
unfolding apply_next_msg
returns-in-Activate c =
    take_on _ _ _ _ (came _ _ _ _ c.in-Some.ensures c.pop_front.ensures) c.pop_front.ensures (rw (acts-tested _ _ _ _, ← c.in_ok-expiry.ensures, c.in-Activate.is) c.activate.ensures)

pub returns-in-Cancel : goal.returns-in-Cancel
unfolding apply_next_msg
returns-in-Cancel c =
    take_on _ _ _ _ (came _ _ _ _ c.in-Some.ensures c.pop_front.ensures) c.pop_front.ensures (rw (acts-tested _ _ _ _, ← c.in_ok-expiry.ensures, c.in-Cancel.is) c.cancel.ensures)

pub returns-in-Expire : goal.returns-in-Expire
unfolding apply_next_msg
returns-in-Expire c =
    take_on _ _ _ _ (came _ _ _ _ c.in-Some.ensures c.pop_front.ensures) c.pop_front.ensures (rw (acts-tested _ _ _ _, ← c.in_ok-expiry.ensures, c.in-Expire.is) c.expire.ensures)
