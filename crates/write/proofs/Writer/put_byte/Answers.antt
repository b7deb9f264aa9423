-- `write::Writer::put_byte` meets its contract. Assumes nothing.
use mathlib.Core.Path.{ap}
use Rattle.write.specs.Write.{with_text}
use Rattle.write.proofs.WriteLaws.{put_in, put-past}
use Rattle.write.proofs.Writer.put_byte.Goals as goal

pub returns-then-self : goal.returns-then-self
returns-then-self c = ap (with_text c.args.self.now) (put_in _ _ _ c.if-self.true)

pub returns-else-self : goal.returns-else-self
returns-else-self c = ap (with_text c.args.self.now) (put-past _ _ _ c.if-self.false)
