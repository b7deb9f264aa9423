-- `lists::Arr::insert` meets its contract, by the laws of `Loops` and `Exits`. Assumes nothing.
use Rattle.lists.proofs.Loops.{Inserting}
use Rattle.lists.proofs.Arr.insert.Given as goal

abbrev pub invariant-loop-i : goal.invariant-loop-i
invariant-loop-i g l = Inserting g.T.Blank.blank l.at l.initial.carry l.count l.initial.self.slots l.i l.stores l.self.slots l.carry
