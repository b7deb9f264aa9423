-- `reports::log::Log::emit` meets its contract. Assumes nothing.
use Prim.Native.Nat.{◌*◌}
use native.Mathlib.Omega.{arith}
use Rattle.reports.proofs.Append.{lent, append-written, append-past, append-full}
use Rattle.reports.proofs.log.Log.emit.Goals as goal

pub returns-then-raised : goal.returns-then-raised
returns-then-raised c = append-full _ _ _ _ c.if-raised.true

pub returns-then-nth-words : goal.returns-then-nth-words
returns-then-nth-words c = let g = c.args.self.now in
    append-written g.words.ghost_name g.words.now _ g.raised c.args.e (omega arith)
    (lent g.words.now c.write_event.new.rest (g.raised * 12) c.args.e (omega arith) c.write_event.ensures)

pub returns-else-nth-words : goal.returns-else-nth-words
returns-else-nth-words c = let g = c.args.self.now in
    append-past g.words.ghost_name g.words.now g.raised c.args.e (omega arith) c.if-nth-words.false
