-- `delivery::deliver_next` meets its contract. Assumes nothing.
use mathlib.Core.Path.{refl}
use Rattle.state.specs.With.{with_deliveries}
use Rattle.rules.specs.Delivery.{deliver_next}
use Rattle.reports.proofs.Then.{hands_on, took_none}
use Rattle.delivery.proofs.Deliveries.{not_moved, not_counted, delivered}
use Rattle.delivery.proofs.deliver_next.Goals as goal

pub returns-in_default : goal.returns-in_default
unfolding deliver_next
returns-in_default c = let s = c.args.s.now in took_none _ _ _ _ _ (with_deliveries s) s _ refl c.in_default.is c.pop_front.ensures

pub returns-in_err-move_agent : goal.returns-in_err-move_agent
returns-in_err-move_agent c = hands_on _ c.from_residual.ensures (not_moved _ _ _ _ _ c.in-Some.is c.pop_front.ensures c.emit.ensures c.in_err-move_agent.ensures)

pub returns-in_err-count_reject : goal.returns-in_err-count_reject
returns-in_err-count_reject c =
    hands_on _ c.from_residual-in_err-count_reject.ensures (not_counted _ _ _ _ _ c.in-Some.is c.pop_front.ensures c.emit.ensures c.in_ok-move_agent.ensures c.in_err-count_reject.ensures)

pub returns : goal.returns
returns c = delivered _ _ _ _ _ c.in-Some.is c.pop_front.ensures c.emit.ensures c.in_ok-move_agent.ensures c.in_ok-count_reject.ensures c.on_delivery.ensures
