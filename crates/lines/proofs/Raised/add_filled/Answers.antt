-- `lines::Raised::add_filled` meets its contract. Assumes nothing.
use mathlib.Core.Path.{◌∙◌}
use Rattle.lines.proofs.PrintLaws.{sum_printed}
use Rattle.lines.proofs.Raised.add_filled.Goals as goal

pub returns : goal.returns
returns c = c.with_lots.ensures ∙ rw c.records.ensures (sum_printed c.args.sum c.args.self.now.events c.args.self.now.last c.args.self.now.log.now)
