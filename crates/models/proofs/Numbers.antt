-- A draw at the largest number, and a checked difference. Assumes nothing.
use Rattle.std.specs.Prelude.{Option, Some, None, SomeIff, ltb, ◌-◌, ◌≤◌}
use Rattle.std.proofs.Common.{le-ltb, lt-ltb}
use Rattle.numbers.specs.Choice.{pick}
use mathlib.Core.Path.{◌≡◌, sym}
use Prim.Native.Nat.{ℕ, ◌+◌, ◌%◌}
use native.Mathlib.Nat.{mod-eq_of_lt}
use native.Mathlib.Omega.{arith}

-- modulo the largest number plus one it is all of the value
pub whole : (v x m : ℕ) → v ≡ x % 18446744073709551616 → m ≡ 18446744073709551615 → v ≡ x % 18446744073709551616 % (m + 1)
whole v x m hv hm = rw (hm, hv) (sym (mod-eq_of_lt (omega arith)))

-- a checked difference is there unless it would be below 0
pub left_over : (a n : ℕ) (r : Option ℕ) → SomeIff r (n ≤ a) (a - n) → r ≡ pick (ltb a n) None (Some (a - n))
unfolding pick
left_over a n None h = rw (lt-ltb a n (omega (arith, h)))
left_over a n (Some x) h = rw (le-ltb a n h.0, h.1)
