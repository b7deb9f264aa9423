-- `write::Writer::put_number` meets its contract. Assumes nothing.
use native.Mathlib.Omega.{arith}
use Rattle.write.proofs.WriteLaws.{put_begin, put_turn, put_last}
use Rattle.write.proofs.Writer.put_number.Goals as goal

pub loop-left-init : goal.loop-left-init
loop-left-init c = put_begin _ c.ranges.n.fits

pub overflow_sub-first : goal.overflow_sub-first
overflow_sub-first c = (put_turn _ _ _ _ c.loop-left.invariant c.loop-left-test.true).0

pub loop-left-preserved : goal.loop-left-preserved
loop-left-preserved c = (put_turn _ _ _ _ c.loop-left.invariant c.loop-left-test.true).1

pub returns : goal.returns
returns c = rw (← put_last _ _ _ _ c.loop-left.invariant (omega arith)) c.put_bytes.ensures
