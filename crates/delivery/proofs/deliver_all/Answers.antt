-- `delivery::deliver_all` meets its contract: the deliveries that are left give what all of them give. Assumes nothing.
use Prim.Native.Nat.{◌+◌, ◌-◌}
use mathlib.Core.Path.{ap, ◌∙◌}
use native.Mathlib.Omega.{arith}
use Rattle.reports.specs.Log.{expected}
use Rattle.reports.proofs.Then.{hands_on}
use Rattle.delivery.proofs.Deliveries.{all_delivered, all_done, all_turn, all_stop}
use Rattle.delivery.proofs.deliver_all.Goals as goal

pub loop-preserved : goal.loop-preserved
loop-preserved c = all_turn _ _ _ _ _ (omega arith) c.in_ok-deliver_next.ensures ∙ c.loop.invariant

pub returns-in_err-deliver_next : goal.returns-in_err-deliver_next
returns-in_err-deliver_next c = hands_on _ c.from_residual.ensures (all_stop (c.min-end.result - (c.loop.counter + 1)) _ _ _ _ (omega arith) c.in_err-deliver_next.ensures ∙ c.loop.invariant ∙ ap (expected _) (all_delivered _ c.min-end.ensures))

pub returns : goal.returns
returns c = all_done _ _ (omega arith) ∙ c.loop.invariant ∙ ap (expected _) (all_delivered _ c.min-end.ensures)
