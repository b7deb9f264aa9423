-- Numbers of 64 bits.
use Rattle.std.specs.Prelude.{ℕ, ◌^◌, Bool, nat_lt, Option, Some, None}
use Rattle.numbers.specs.Choice.{pick}

-- n is a number of 64 bits
unfoldable pub fits : ℕ → Bool
fits n = nat_lt n (2 ^ 64)

-- n, or none past 64 bits
unfoldable pub fitting : ℕ → Option ℕ
fitting n = pick (fits n) (Some n) None
