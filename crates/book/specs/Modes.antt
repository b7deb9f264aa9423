-- Of the fill modes.
use Rattle.std.specs.Prelude.{Bool, false, ltb}
use Rattle.book.specs.declared.config.FillMode.{FillMode}
use Rattle.book.specs.declared.config.FillMode.TheVariants.{Immediate, QueuePosition}

-- N11, "Minimum queue time goes. .. Configurations must carry 0": whether a mode carries one above 0. Immediate has none to carry
abbrev pub has_minimum : FillMode → Bool
has_minimum Immediate = false
has_minimum (QueuePosition rate per least) = ltb 0 least
