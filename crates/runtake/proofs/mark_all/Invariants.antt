-- `runtake::mark_all` meets its contract. Assumes nothing.
use mathlib.Core.Path.{◌≡◌}
use mathlib.Core.List.{◌++◌, map}
use lib.ListN.{take, drop}
use Rattle.runtake.specs.Take.{marked}
use Rattle.runtake.proofs.mark_all.Given as goal

abbrev pub invariant-loop-msg : goal.invariant-loop-msg
invariant-loop-msg l = l.msg-items ≡ map (marked l.id) (take l.msg-index l.initial.msg-items) ++ drop l.msg-index l.initial.msg-items
