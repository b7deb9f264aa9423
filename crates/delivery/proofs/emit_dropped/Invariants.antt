-- `delivery::emit_dropped` meets its contract: the events of the messages that are left stand behind those before them. Assumes nothing.
use mathlib.Core.List.{map}
use mathlib.Core.Path.{◌≡◌}
use lib.ListN.{drop}
use Rattle.rules.specs.Delivery.{dropped_event}
use Rattle.reports.specs.Log.{log_of, append_events}
use Rattle.delivery.proofs.emit_dropped.Given as goal

abbrev pub invariant-loop-msg : goal.invariant-loop-msg
invariant-loop-msg l = append_events (log_of l.log) (map dropped_event (drop l.msg-index l.msg-items)) ≡ append_events (log_of l.initial.log) (map dropped_event l.msg-items)
