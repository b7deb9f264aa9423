-- `text::Fields::next_number` meets its contract. Assumes nothing.
use mathlib.Core.Path.{refl, sym}
use Rattle.text.proofs.NumberLaws.{number_empty}
use Rattle.text.proofs.CursorLaws.{first_none}
use Rattle.text.proofs.Fields.next_number.Goals as goal

pub returns-in_err-next_field-clause-number : goal.returns-in_err-next_field-clause-number
returns-in_err-next_field-clause-number c = rw (c.from_residual.ensures, first_none _ c.in_err-next_field.ensures.field) (sym (number_empty _ refl))
