-- `lines::Raised::put_lines` meets its contract. Assumes nothing.
use mathlib.Core.Path.{sym}
use Rattle.write.proofs.WriteLaws.{written_none}
use Rattle.lines.proofs.PrintLaws.{lines_more, lines_all, call_cut, call_whole}
use Rattle.lines.proofs.Raised.put_lines.Goals as goal

pub loop-words-init : goal.loop-words-init
loop-words-init c = sym (written_none c.args.text.now)

pub loop-words-preserved : goal.loop-words-preserved
loop-words-preserved c = lines_more _ _ c.records-records.result.now c.loop-words.words-index c.loop-words.invariant _ c.loop-words-test.true c.put_event.ensures

pub returns-then-records-self : goal.returns-then-records-self
returns-then-records-self c =
    call_cut c.args.self.now.log.now c.args.self.now.events c.args.self.now.last c.records-records.result.now c.records-records.ensures c.args.text.now _
    (lines_all _ _ _ c.loop-words.words-index c.loop-words.invariant c.loop-words-test.false) _ c.if-records-self.true c.put_bytes.ensures

pub returns-else-records-self : goal.returns-else-records-self
returns-else-records-self c =
    call_whole c.args.self.now.log.now c.args.self.now.events c.args.self.now.last c.records-records.result.now c.records-records.ensures c.args.text.now _
    (lines_all _ _ _ c.loop-words.words-index c.loop-words.invariant c.loop-words-test.false) c.if-records-self.false
