-- `runline::numbers` meets its contract. Assumes nothing.
use mathlib.Core.Path.{◌≡◌}
use Prim.Native.Nat.{◌-◌}
use lib.ListN.{length, take, drop}
use Rattle.text.specs.Cursor.{left}
use Rattle.runline.specs.Numbers.{numbers}
use Rattle.runline.proofs.NumbersLaws.{behind}
use Rattle.runline.proofs.numbers.Given as goal

abbrev pub invariant-loop-word : goal.invariant-loop-word
invariant-loop-word g l = record {
  long : length l.word-items ≡ g.row.N;
  words : numbers g.row.N (left l.initial.fields) ≡ behind (take l.word-index l.word-items) (numbers (g.row.N - l.word-index) (left l.fields));
  rest : left l.fields ≡ drop l.word-index (left l.initial.fields);
}
