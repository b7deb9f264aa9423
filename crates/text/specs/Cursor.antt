-- A line read field by field.
use Rattle.std.specs.Prelude.{ℕ, List, []}
use Rattle.numbers.specs.Choice.{on_some}
use Rattle.text.specs.declared.Fields.{Fields}
use Rattle.text.specs.Fields.{fields}

-- the fields that are left, of the rest of the line: it has a last field also where it ends with a space, and none behind that
unfoldable pub left : Fields → List (List ℕ)
left f = on_some f.rest (λ rest. fields rest.now) []
