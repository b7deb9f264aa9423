-- A number of 64 bits, or none, as std's checked operations give it. Assumes nothing.
use Rattle.std.specs.Prelude.{Option, Some, None, SomeIff}
use Rattle.std.proofs.Common.{◌≡◌, ℕ, ◌^◌, ◌<◌, arith, le-ltb, lt-ltb}
use Rattle.numbers.specs.Choice.{pick}
use Rattle.numbers.specs.Words.{fits, fitting}

pub fitted : (r : Option ℕ) (n : ℕ) → SomeIff r (n < 2 ^ 64) n → r ≡ fitting n
unfolding fitting fits pick
fitted None n h = rw (le-ltb n (2 ^ 64) (omega arith))
fitted (Some x) n (h, e) = rw (lt-ltb _ _ h, e)
