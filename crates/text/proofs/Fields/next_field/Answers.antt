-- `text::Fields::next_field` meets its contract. Assumes nothing.
use mathlib.Core.Path.{sym}
use Rattle.text.proofs.PartedLaws.{once_none, once_some}
use Rattle.text.proofs.CursorLaws.{left_behind, left_last, left_none, left_some}
use Rattle.text.proofs.Fields.next_field.Goals as goal

pub returns-in_err-line-clause-field : goal.returns-in_err-line-clause-field
returns-in_err-line-clause-field c = rw (c.from_residual.ensures, left_none _ c.in_err-line.was)

pub returns-in_err-line-clause-rest : goal.returns-in_err-line-clause-rest
returns-in_err-line-clause-rest c = rw (left_none _ c.in_err-line.was)

pub returns-in-Some-clause-field : goal.returns-in-Some-clause-field
returns-in-Some-clause-field c = rw (left_some _ _ c.in_ok-line.was, once_some _ _ _ _ (sym c.in-Some.ensures))

pub returns-in-Some-clause-rest : goal.returns-in-Some-clause-rest
returns-in-Some-clause-rest c = rw (left_behind, left_some _ _ c.in_ok-line.was, once_some _ _ _ _ (sym c.in-Some.ensures))

pub returns-in-None-clause-field : goal.returns-in-None-clause-field
returns-in-None-clause-field c = rw (left_some _ _ c.in_ok-line.was, once_none _ _ (sym c.in-None.ensures))

pub returns-in-None-clause-rest : goal.returns-in-None-clause-rest
returns-in-None-clause-rest c = rw (left_last, left_some _ _ c.in_ok-line.was, once_none _ _ (sym c.in-None.ensures))
