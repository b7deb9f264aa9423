-- `phases::row_at` meets its contract, by the laws of `Rows`. Assumes nothing.
use mathlib.Core.Path.{◌∙◌}
use Rattle.phases.proofs.Rows.{row_none, row_some}
use Rattle.phases.proofs.row_at.Goals as goal

pub returns-in_err-words : goal.returns-in_err-words
returns-in_err-words c = c.from_residual.ensures ∙ row_none _ _ c.as_chunks.ensures.front_len c.in_err-words.ensures.lookup.0

pub returns : goal.returns
returns c = row_some _ _ c.as_chunks.ensures.front_len _ c.as_chunks.ensures.front c.in_ok-words.ensures.lookup.0 c.in_ok-words.ensures.lookup.1 c.from.ensures
