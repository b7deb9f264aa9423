-- `phases::next_row` meets its contract, by the laws of `Exits`. Assumes nothing.
use mathlib.Core.Path.{sym, ap, ◌∙◌}
use native.Mathlib.Omega.{arith}
use Rattle.std.specs.Prelude.{is_some}
use Rattle.phases.proofs.Exits.{row_below, next_none, next_over, next_on}
use Rattle.phases.proofs.next_row.Goals as goal

pub returns-then-is_none : goal.returns-then-is_none
returns-then-is_none c = next_none _ _ _ _ (ap is_some (sym c.row_at.ensures) ∙ c.if-is_none.ensures) c.end_of_data.ensures

pub returns-then-s-cfg : goal.returns-then-s-cfg
returns-then-s-cfg c = next_over _ _ _ _ (ap is_some (sym c.row_at.ensures) ∙ c.if-is_none.ensures) c.if-s-cfg.true c.end.ensures

pub overflow_add-cursor : goal.overflow_add-cursor
overflow_add-cursor c = omega (arith, row_below _ _ (ap is_some (sym c.row_at.ensures) ∙ c.if-is_none.ensures))

pub returns : goal.returns
returns c = next_on _ _ _ _ (ap is_some (sym c.row_at.ensures) ∙ c.if-is_none.ensures) c.if-s-cfg.false c.to_row.ensures
