-- `lists::Arr::clear` meets its contract, by the laws of `Loops` and `Exits`. Assumes nothing.
use native.Mathlib.Omega.{arith}
use Rattle.lists.proofs.Loops.{empty_turn}
use Rattle.lists.proofs.Exits.{empty_over, empty_in}
use Rattle.lists.proofs.Arr.clear.Goals as goal

pub returns-then-self : goal.returns-then-self
returns-then-self g c = empty_over _ _ _ c.if-self.true

pub loop-slot-preserved : goal.loop-slot-preserved
loop-slot-preserved g c = rw c.blank.ensures (empty_turn (omega arith) c.loop-slot.invariant)

pub returns : goal.returns
returns g c = empty_in _ _ _ (omega arith) (omega arith) (omega arith) c.loop-slot.invariant
