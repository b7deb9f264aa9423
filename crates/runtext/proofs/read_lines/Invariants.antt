-- `runtext::read_lines` meets its contract. Assumes nothing.
use Prim.Native.Nat.{◌+◌, ◌≤◌}
use mathlib.Core.Path.{◌≡◌}
use lib.ListN.{length}
use Rattle.text.specs.Fields.{parted}
use Rattle.runtake.specs.Take.{reading_of}
use Rattle.runtext.specs.Read.{read_parts}
use Rattle.runtext.proofs.read_lines.Given as goal

abbrev pub invariant-loop-piece : goal.invariant-loop-piece
invariant-loop-piece l = record {
  few : l.n + length l.piece-iterator.rest.now ≤ 65536;
  same : read_parts 0 (reading_of l.initial.reader) (parted 10 l.text) ≡ read_parts l.n (reading_of l.reader) (parted 10 l.piece-iterator.rest.now);
  lent : l.reader.words.ghost_name ≡ l.initial.reader.words.ghost_name;
}
