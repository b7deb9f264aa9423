-- `runtake::Reader::take_row` meets its contract. Assumes nothing.
use mathlib.Core.Path.{refl, ◌∙◌}
use native.Mathlib.Omega.{arith}
use Rattle.runtake.proofs.Rows.{row_in}
use Rattle.runtake.proofs.Reader.take_row.Goals as goal

pub returns : goal.returns
returns c = (row_in _ _ _ (omega (arith, c.if-n-lt-HEAD_LINES.false)) (omega (arith, c.if-self-ge-MOST_ROWS.false)) (omega arith) (c.copy_from_slice.ensures.after ∙ c.from.ensures) (omega arith), tt, refl)
