-- A number of 64 bits has at most 20 digits. Assumes nothing.
use Prim.Native.Nat.{ℕ, zero, suc, ◌/◌, ◌≤◌, ◌<◌}
use mathlib.Core.Path.{◌≡◌, refl}
use mathlib.Core.Bool.{Bool, true, false}
use native.Mathlib.Omega.{arith}
use lib.Dec.{ltb}
use lib.ListN.{length, length-append}
use borrow.Author.Tests.{ltb-true, ltb-false}
use Rattle.write.specs.Write.{decimal}
use Rattle.write.proofs.WriteLaws.{decimal-one, decimal-more, tens, word-tens}

-- a number below 10^k has at most k digits
digits-most : (k n : ℕ) → n < tens (suc k) → length (decimal n) ≤ suc k
unfolding tens
digits-most zero n h = rw (← decimal-one n h) (omega arith)
digits-most (suc k) n h = cases (ltb n 10) refl (digits-most k (n / 10) (omega arith))
  where
    cases : (t : Bool) → ltb n 10 ≡ t → length (decimal (n / 10)) ≤ suc k → length (decimal n) ≤ suc (suc k)
    cases true e i = rw (← decimal-one n (ltb-true n 10 e)) (omega arith)
    cases false e i = rw (decimal-more n (ltb-false n 10 e), length-append) (omega arith)

pub word-most : (n : ℕ) → n < 18446744073709551616 → length (decimal n) ≤ 20
word-most n h = digits-most 19 n (word-tens n h)
