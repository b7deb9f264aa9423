-- `runtake::mark_all` meets its contract. Assumes nothing.
use native.Mathlib.Omega.{arith}
use Rattle.std.proofs.lemmas.List.{get_or_default}
use Rattle.std.proofs.lemmas.List.Edits.{map_over_more}
use Rattle.runtake.specs.Take.{marked}
use Rattle.runtake.proofs.mark_all.Goals as goal

pub loop-msg-preserved : goal.loop-msg-preserved
loop-msg-preserved c = rw c.mark.ensures (map_over_more (marked c.args.id) _ _ _ _ (omega arith) c.loop-msg.invariant (get_or_default c.loop-msg.msg-items _ _ _ (omega arith)))
