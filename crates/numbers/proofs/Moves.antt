-- A position that is moved by a count, as std's conversion and checked operations give it. Assumes nothing.
use Rattle.std.specs.Prelude.{Option, Some, None, Result, Ok, Err, FitsSigned}
use Rattle.std.specs.Result.{OkIff, result_ok}
use Rattle.std.proofs.Common.{◌≡◌, ℕ, ◌^◌, ◌<◌, ◌≤◌, refl, ◌∙◌, ℤ, pos, negsuc, arith, nat_lt, w64, to_z, of_z, le-ltb, lt-ltb, le-leb}
use borrow.Author.Tests.{lt-leb}
use mir.Facts.{to_z-of_z}
use Rattle.numbers.specs.Choice.{pick}
use Rattle.numbers.specs.Position.{ranged}
use Rattle.numbers.specs.declared.position.Position.{Position}

past : (n : ℕ) → (n < 2 ^ 63 → ⊥) → 2 ^ 63 ≤ n
past n h = omega arith

-- the range is that of an i64

within : (z : ℤ) → FitsSigned w64 z → Some (record { lots = z }) ≡ ranged z
unfolding ranged pick
within (pos n) f = rw (le-leb n 9223372036854775807 (omega (arith, f.sfits)))
within (negsuc n) f = rw (le-leb n 9223372036854775807 (omega (arith, f.sfits)))

outside : (z : ℤ) → (FitsSigned w64 z → ⊥) → None ≡ ranged z
unfolding ranged pick
outside (pos n) h = rw (lt-leb n 9223372036854775807 (past n (λ k. h (record { sfits = k }))))
outside (negsuc n) h = rw (lt-leb n 9223372036854775807 (past n (λ k. h (record { sfits = k }))))

-- what both definitions of a move say
abbrev move : ℕ → ℤ → Option Position
move n z = pick (nat_lt n (2 ^ 63)) (ranged z) None

-- the count n as std's conversion gives it, in an i64
abbrev pub Count : {E : Type 0} → Result ℤ E → ℕ → Type 0
Count r n = OkIff r (FitsSigned w64 (pos n)) (pos n)

pub no_count : {E : Type 0} (r : Result ℤ E) (n : ℕ) (z : ℤ) → Count r n → None ≡ result_ok r → None ≡ move n z
unfolding pick
no_count (Ok x) n z h e = cc
no_count (Err x) n z h e = rw (le-ltb n (2 ^ 63) (past n (λ k. h (record { sfits = k }))))

counted : {E : Type 0} (r : Result ℤ E) (n : ℕ) (b : ℤ) → Count r n → Some b ≡ result_ok r → FitsSigned w64 (pos n) × (b ≡ pos n)
counted (Ok x) n b (f, v) e = (f, cc)
counted (Err x) n b h e = cc

move_ranged : (n : ℕ) (z : ℤ) → FitsSigned w64 (pos n) → ranged z ≡ move n z
unfolding pick
move_ranged n z f = rw (lt-ltb n (2 ^ 63) f.sfits)

-- a move by a count, out of the range or within it
module _ {E : Type 0} (step : ℤ → ℤ → ℤ) (r : Result ℤ E) (n : ℕ) (p b : ℤ) (h : Count r n) (e : Some b ≡ result_ok r) (f : FitsSigned w64 p) where
  abbrev read : ℤ
  read = step (to_z w64 (of_z w64 p)) (to_z w64 (of_z w64 b))

  same : read ≡ step p (pos n)
  same =
      let (g, v) = counted r n b h e in
      rw (v, to_z-of_z f, to_z-of_z g) refl

  moved : ranged (step p (pos n)) ≡ move n (step p (pos n))
  moved = move_ranged n (step p (pos n)) (counted r n b h e).0

  pub moves_out : (FitsSigned w64 read → ⊥) → None ≡ move n (step p (pos n))
  moves_out out = outside (step p (pos n)) (rw same at out) ∙ moved

  pub moves_to : (x : ℤ) → FitsSigned w64 read × (x ≡ read) → Some (record { lots = to_z w64 (of_z w64 x) }) ≡ move n (step p (pos n))
  moves_to x (g, v) =
      let k : FitsSigned w64 (step p (pos n)) = rw same at g in
      rw (v, same, to_z-of_z k) (within (step p (pos n)) k) ∙ moved
