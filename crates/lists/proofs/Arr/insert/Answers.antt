-- `lists::Arr::insert` meets its contract, by the laws of `Loops` and `Exits`. Assumes nothing.
use native.Mathlib.Omega.{arith}
use Rattle.lists.proofs.Loops.{insert_begin, insert_turn}
use Rattle.lists.proofs.Exits.{put_full, put-past, put_in}
use Rattle.lists.proofs.Arr.insert.Goals as goal
use Rattle.lists.proofs.Arr.insert.Goals.{then-count-via-then-count, then-count-via-else-count+then-at-count}

pub returns-then-count : goal.returns-then-count
returns-then-count g c = elim c.then-count.branch [ then-count-via-then-count w ↦ put_full _ _ _ _ (omega arith) | then-count-via-else-count+then-at-count w ↦ put-past _ _ _ _ (omega arith) (omega arith) ]

pub loop-i-init : goal.loop-i-init
loop-i-init g c = insert_begin (omega arith) (omega arith)

pub loop-i-preserved : goal.loop-i-preserved
loop-i-preserved g c = insert_turn _ (omega arith) c.loop-i.invariant

pub returns : goal.returns
returns g c = put_in _ _ (omega arith) (omega arith) c.loop-i.invariant
