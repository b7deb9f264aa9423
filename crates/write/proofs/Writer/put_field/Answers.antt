-- `write::Writer::put_field` meets its contract. Assumes nothing.
use mathlib.Core.List.{[], ◌∷◌}
use Rattle.write.specs.Write.{decimal}
use Rattle.write.proofs.WriteLaws.{written_append}
use Rattle.write.proofs.Writer.put_field.Goals as goal

pub returns : goal.returns
returns c = rw (c.put_number.ensures, c.put_byte.ensures) (written_append c.args.self.now (32 ∷ []) (decimal c.args.n))
