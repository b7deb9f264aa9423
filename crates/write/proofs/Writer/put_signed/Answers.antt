-- `write::Writer::put_signed` meets its contract. Assumes nothing.
use mathlib.Core.List.{[], ◌∷◌}
use Rattle.write.proofs.WriteLaws.{written_append}
use Rattle.write.proofs.SignedLaws.{below_signed, above_signed}
use Rattle.write.proofs.Writer.put_signed.Goals as goal
use Rattle.write.proofs.Writer.put_signed.Goals.{then-n-lt0, else-n-lt0}

pub returns : goal.returns
returns c = elim c.if-n-lt0.branch [
  | then-n-lt0 w ↦ rw (← below_signed c.args.n c.ranges.n w.if-n-lt0.true, c.put_number.ensures, w.self-is, w.put_byte.ensures, c.unsigned_abs.ensures.value) (written_append c.args.self.now (45 ∷ []) _)
  | else-n-lt0 w ↦ rw (← above_signed c.args.n c.ranges.n w.if-n-lt0.false, c.put_number.ensures, w.self-is, c.unsigned_abs.ensures.value)
]
