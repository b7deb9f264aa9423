-- `text::split_once` meets its contract. Assumes nothing.
use Rattle.text.proofs.PartedLaws.{once_unfound, once_found}
use Rattle.text.proofs.split_once.Goals as goal

pub returns-in_err-at : goal.returns-in_err-at
returns-in_err-at c = rw c.from_residual.ensures (once_unfound _ _ c.in_err-at.ensures)

pub returns : goal.returns
returns c = once_found _ _ _ c.in_ok-at.ensures
