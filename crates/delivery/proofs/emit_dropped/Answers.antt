-- `delivery::emit_dropped` meets its contract: the events of the messages that are left stand behind those before them. Assumes nothing.
use mathlib.Core.List.{map}
use mathlib.Core.Path.{ap, ◌∙◌}
use Rattle.rules.specs.Delivery.{dropped_event}
use Rattle.reports.specs.Log.{log_of, append_events}
use Rattle.delivery.proofs.Deliveries.{dropped_turn, dropped_all}
use Rattle.delivery.proofs.emit_dropped.Goals as goal

pub loop-msg-preserved : goal.loop-msg-preserved
loop-msg-preserved c = dropped_turn _ _ _ _ _ _ c.loop-msg-test.true c.dropped_event.ensures c.emit.ensures ∙ c.loop-msg.invariant

pub returns : goal.returns
returns c = dropped_all _ _ _ _ c.loop-msg-test.false c.loop-msg.invariant ∙ ap (λ ms. append_events (log_of c.args.log.now) (map dropped_event ms)) c.as_slice-msg-items.ensures
