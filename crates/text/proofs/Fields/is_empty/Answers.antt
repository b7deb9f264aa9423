-- `text::Fields::is_empty` meets its contract. Assumes nothing.
use Rattle.text.proofs.CursorLaws.{left_empty}
use Rattle.text.proofs.Fields.is_empty.Goals as goal

pub returns : goal.returns
returns c = left_empty _ _ c.is_none.ensures
