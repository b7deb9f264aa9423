-- `lists::Arr::clear` meets its contract, by the laws of `Loops` and `Exits`. Assumes nothing.
use lib.ListN.{length}
use Rattle.lists.proofs.Loops.{Emptying}
use Rattle.lists.proofs.Arr.clear.Given as goal

abbrev pub invariant-loop-slot : goal.invariant-loop-slot
invariant-loop-slot g l = Emptying g.T.Blank.blank (length l.initial.slot-items) l.initial.slot-items l.slot-index l.slot-items
