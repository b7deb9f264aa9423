-- The choices with which every definition of the project says its cases: by a test, and by whether there is a value.
use Rattle.std.specs.Prelude.{Bool, true, false, Option, Some, None}

unfoldable pub pick : {A : Type 0} → Bool → A → A → A
pick true a b = a
pick false a b = b

-- k of the value that is there, else z
unfoldable pub on_some : {A B : Type 0} → Option A → (A → B) → B → B
on_some None k z = z
on_some (Some x) k z = k x
