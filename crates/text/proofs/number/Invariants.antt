-- `text::number` meets its contract. Assumes nothing.
use Prim.Native.Nat.{◌<◌}
use mathlib.Core.Path.{◌≡◌}
use lib.ListN.{drop}
use Rattle.text.specs.Fields.{number}
use Rattle.text.proofs.NumberLaws.{read_on}
use Rattle.text.proofs.number.Given as goal

abbrev pub invariant-loop-b : goal.invariant-loop-b
invariant-loop-b l = record {
  fits : l.n < 18446744073709551616;
  same : number l.field ≡ read_on l.n (drop l.b-index l.field);
}
