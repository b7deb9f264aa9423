-- `delivery::deliver_all` meets its contract: the deliveries that are left give what all of them give. Assumes nothing.
use Prim.Native.Nat.{◌-◌}
use mathlib.Core.Path.{◌≡◌}
use Rattle.rules.specs.Delivery.{deliver_all}
use Rattle.reports.specs.Log.{log_of, expected}
use Rattle.delivery.proofs.deliver_all.Given as goal

abbrev pub invariant-loop : goal.invariant-loop
invariant-loop l = expected (log_of l.log) (deliver_all (l.end - l.counter) l.s) ≡ expected (log_of l.initial.log) (deliver_all l.end l.initial.s)
