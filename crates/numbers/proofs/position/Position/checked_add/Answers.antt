-- `numbers::position::Position::checked_add` meets its contract. Assumes nothing.
use Rattle.std.proofs.Common.{rules, ◌∙◌, ◌+ℤ◌}
use Rattle.numbers.specs.Position.{raised_by}
use Rattle.numbers.proofs.Moves.{no_count, moves_out, moves_to}
use Rattle.numbers.proofs.position.Position.checked_add.Goals as goal

pub returns-in_err-bought : goal.returns-in_err-bought
unfolding raised_by
returns-in_err-bought c = c.from_residual.ensures ∙ no_count _ _ _ c.try_from.ensures c.in_err-bought.ensures.value

pub returns-in_err-lots : goal.returns-in_err-lots
unfolding raised_by
returns-in_err-lots c = c.from_residual-in_err-lots.ensures
    ∙ moves_out ◌+ℤ◌ _ _ _ _ c.try_from.ensures c.in_ok-bought.ensures.value (search rules) c.in_err-lots.ensures

pub returns : goal.returns
unfolding raised_by
returns c = moves_to ◌+ℤ◌ _ _ _ _ c.try_from.ensures c.in_ok-bought.ensures.value (search rules) _ c.in_ok-lots.ensures
