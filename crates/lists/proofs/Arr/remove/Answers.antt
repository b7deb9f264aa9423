-- `lists::Arr::remove` meets its contract, by the laws of `Loops` and `Exits`. Assumes nothing.
use native.Mathlib.Omega.{arith}
use Rattle.lists.proofs.Loops.{remove_begin, remove_turn}
use Rattle.lists.proofs.Exits.{entry_tells, take_none, take_in}
use Rattle.lists.proofs.Arr.remove.Goals as goal

pub returns-in_default : goal.returns-in_default
returns-in_default g c = take_none _ _ _ _ c.in_default.ensures

pub overflow_sub-last : goal.overflow_sub-last
overflow_sub-last g c = let w = entry_tells _ _ _ _ _ c.in-Some.ensures in omega arith

pub loop-i-init : goal.loop-i-init
loop-i-init g c = let w = entry_tells _ _ _ _ _ c.in-Some.ensures in remove_begin w.1 (omega arith)

pub loop-i-preserved : goal.loop-i-preserved
loop-i-preserved g c = remove_turn _ (omega arith) c.loop-i.invariant

pub returns : goal.returns
returns g c =
    let w = entry_tells _ _ _ _ _ c.in-Some.ensures in
    rw w.2 (take_in _ _ w.0 c.blank.ensures (omega arith) c.loop-i.invariant)
