-- `lists::Arr::remove` meets its contract, by the laws of `Loops` and `Exits`. Assumes nothing.
use Rattle.lists.proofs.Loops.{Removing}
use Rattle.lists.proofs.Arr.remove.Given as goal

abbrev pub invariant-loop-i : goal.invariant-loop-i
invariant-loop-i g l = Removing g.T.Blank.blank l.at l.initial.self.count l.initial.self.slots l.i l.stores l.self.slots
