-- `text::Fields::new` meets its contract. Assumes nothing.
use Rattle.text.proofs.CursorLaws.{left_behind}
use Rattle.text.proofs.Fields.new.Goals as goal

pub returns : goal.returns
returns c = left_behind _
