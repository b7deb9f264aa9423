-- `deeds::activation::schedule` meets its contract. Assumes nothing.
use Rattle.std.proofs.Common.{rules}
use Rattle.numbers.specs.Choice.{on_some}
use Rattle.rules.specs.Messages.{schedule}
use Rattle.std.specs.Prelude.{Ok, Err}
use Rattle.reports.proofs.Then.{hands_on_quiet}
use Rattle.deeds.proofs.Deeds.{scheduled}
use Rattle.deeds.proofs.activation.schedule.Goals as goal

pub returns-in_err-s : goal.returns-in_err-s
unfolding schedule on_some
returns-in_err-s c = search rules

pub returns-in_err-insert_by_key : goal.returns-in_err-insert_by_key
returns-in_err-insert_by_key c = hands_on_quiet _ c.from_residual-in_err-insert_by_key.ensures (scheduled _ _ _ (Err _) (search rules) c.in_err-insert_by_key.was c.insert_by_key.ensures)

pub returns : goal.returns
returns c = scheduled _ _ _ (Ok tt) (search rules) c.in_ok-insert_by_key.was c.insert_by_key.ensures
