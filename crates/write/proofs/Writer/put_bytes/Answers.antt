-- `write::Writer::put_bytes` meets its contract. Assumes nothing.
use mathlib.Core.Path.{sym, ap}
use native.Mathlib.Omega.{arith}
use Rattle.write.specs.Write.{with_text}
use Rattle.write.proofs.WriteLaws.{past, put_room}
use Rattle.write.proofs.Writer.put_bytes.Goals as goal

pub returns-then-self : goal.returns-then-self
returns-then-self c = ap (with_text c.args.self.now)
    (put_room c.args.self.now.out.now c.args.self.now.len c.min-n.result c.args.s.now c.copy_from_slice.new.self c.if-self.true c.min-n.ensures c.copy_from_slice.ensures.after)

pub returns-else-self : goal.returns-else-self
returns-else-self c = ap (with_text c.args.self.now) (sym (past _ _ c.args.s.now (omega arith)))
