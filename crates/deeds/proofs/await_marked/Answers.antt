-- `deeds::await_marked` meets its contract. Assumes nothing.
use Rattle.std.specs.Prelude.{Ok, Err}
use Rattle.reports.proofs.Then.{hands_on_quiet}
use Rattle.deeds.proofs.Deeds.{awaited, unmarked}
use Rattle.deeds.proofs.await_marked.Goals as goal

pub returns-in_err-insert_by_id : goal.returns-in_err-insert_by_id
returns-in_err-insert_by_id c = hands_on_quiet _ c.from_residual.ensures (awaited _ _ (Err _) c.if-order.true c.in_err-insert_by_id.was c.insert_by_id.ensures)

pub returns-in_ok-insert_by_id : goal.returns-in_ok-insert_by_id
returns-in_ok-insert_by_id c = awaited _ _ (Ok tt) c.if-order.true c.in_ok-insert_by_id.was c.insert_by_id.ensures

pub returns-else-order : goal.returns-else-order
returns-else-order c = unmarked _ _ c.if-order.false
