-- `matching::leave` meets its contract. Assumes nothing.
use Rattle.matching.proofs.Passes.{leave_none, leave_on}
use Rattle.matching.proofs.leave.Goals as goal

pub returns-in_default : goal.returns-in_default
returns-in_default c = leave_none _ _ c.in_default.is c.remove.ensures

pub returns : goal.returns
returns c = leave_on _ _ _ _ c.in-Some.is c.remove.ensures c.remove_expiry.ensures c.await_marked.ensures
