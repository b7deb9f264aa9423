-- The paper's number of each case: sides, report kinds, origins, yes and no.
use Rattle.std.specs.Prelude.{ℕ, Bool, true, false}
use Rattle.book.specs.declared.Side.{Side}
use Rattle.book.specs.declared.Side.TheVariants.{Buy, Sell}
use Rattle.book.specs.declared.ExecKind.{ExecKind}
use Rattle.book.specs.declared.ExecKind.TheVariants.{Accepted, Rejected, Canceled, CancelRejected, PartialFill, Fill}
use Rattle.book.specs.declared.Origin.{Origin}
use Rattle.book.specs.declared.Origin.TheVariants.{Local, Venue}

-- side 0 Buy 1 Sell
abbrev pub side_number : Side → ℕ
side_number Buy = 0
side_number Sell = 1

-- ExecKind 0 to 5 as declared
abbrev pub exec_number : ExecKind → ℕ
exec_number Accepted = 0
exec_number Rejected = 1
exec_number Canceled = 2
exec_number CancelRejected = 3
exec_number PartialFill = 4
exec_number Fill = 5

-- origin 0 Local 1 Venue
abbrev pub origin_number : Origin → ℕ
origin_number Local = 0
origin_number Venue = 1

-- a yes-no word
abbrev pub flag_number : Bool → ℕ
flag_number false = 0
flag_number true = 1
