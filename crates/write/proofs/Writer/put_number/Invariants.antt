-- `write::Writer::put_number` meets its contract. Assumes nothing.
use Rattle.write.proofs.WriteLaws.{Putting}
use Rattle.write.proofs.Writer.put_number.Given as goal

abbrev pub invariant-loop-left : goal.invariant-loop-left
invariant-loop-left l = Putting l.n l.left l.first l.digits

abbrev pub decreases-loop-left : goal.decreases-loop-left
decreases-loop-left l = l.left
