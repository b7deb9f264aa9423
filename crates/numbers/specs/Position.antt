-- A signed position of 64 bits, moved by a count of lots.
use Rattle.std.specs.Prelude.{ℕ, ◌^◌, ℤ, pos, negsuc, ◌+ℤ◌, ◌-ℤ◌, int_le, nat_lt, Option, Some, None}
use Rattle.numbers.specs.Choice.{pick}
use Rattle.numbers.specs.declared.position.Position.{Position}

-- z, where it is at least -2^63 and at most 2^63 - 1
unfoldable pub ranged : ℤ → Option Position
ranged z = pick (int_le (negsuc 9223372036854775807) z) (pick (int_le z (pos 9223372036854775807)) (Some (record { lots = z })) None) None

-- a buy adds; a count above 2^63 - 1 is out
unfoldable pub raised_by : Position → ℕ → Option Position
raised_by p n = pick (nat_lt n (2 ^ 63)) (ranged (p.lots +ℤ pos n)) None

-- a sell takes away
unfoldable pub lowered_by : Position → ℕ → Option Position
lowered_by p n = pick (nat_lt n (2 ^ 63)) (ranged (p.lots -ℤ pos n)) None
