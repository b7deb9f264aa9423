-- `lines::Raised::put_lines` meets its contract. Assumes nothing.
use mathlib.Core.Path.{◌≡◌}
use lib.ListN.{take}
use Rattle.std.specs.List.{flat_map}
use Rattle.write.specs.Write.{written}
use Rattle.logline.specs.Record.{event_line}
use Rattle.lines.proofs.Raised.put_lines.Given as goal

abbrev pub invariant-loop-words : goal.invariant-loop-words
invariant-loop-words l = l.text ≡ written l.initial.text (flat_map event_line (take l.words-index l.records))
