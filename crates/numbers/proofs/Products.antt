-- Products of two words by their halves of 32 bits. Assumes nothing.
use Rattle.std.proofs.Common.{◌≡◌, ℕ, ◌+◌, ◌*◌, ◌/◌, ◌%◌, ◌<◌, ◌≤◌, sym, ◌∙◌, ap₂, mul_assoc, add-mul, mul-le-mul, div-add-mod', mul-add, mul_right_comm, arith, w64, Fits}
use native.Mathlib.Nat.{mul-mul-mul_comm}

-- a product of two halves
half : (x y : ℕ) → x < 4294967296 → y < 4294967296 → x * y ≤ 18446744065119617025
half x y hx hy =
    let px : x ≤ 4294967295 = omega arith in
    let py : y ≤ 4294967295 = omega arith in
    mul-le-mul px py

columns : (p q r s : ℕ)
    → (p * 4294967296 + q) * (r * 4294967296 + s) ≡ p * r * 18446744073709551616 + (p * s + q * r) * 4294967296 + q * s
columns p q r s =
    rw (add-mul (p * 4294967296) q, mul-add (p * 4294967296), mul-add q, mul-mul-mul_comm, mul_right_comm p 4294967296 s, ← mul_assoc q r 4294967296) (omega arith)

-- the product by the four products of halves
pub by_halves : (a b : ℕ)
    → a * b ≡ (a / 4294967296) * (b / 4294967296) * 18446744073709551616
    + ((a / 4294967296) * (b % 4294967296) + (a % 4294967296) * (b / 4294967296)) * 4294967296
    + (a % 4294967296) * (b % 4294967296)
by_halves a b =
    ap₂ ◌*◌ (sym (div-add-mod' a 4294967296)) (sym (div-add-mod' b 4294967296))
    ∙ columns (a / 4294967296) (a % 4294967296) (b / 4294967296) (b % 4294967296)

-- those that have a lower half in them are small
pub record Halves (a b : ℕ) : Type 0 where
  pub hl : (a / 4294967296) * (b % 4294967296) ≤ 18446744065119617025
  pub lh : (a % 4294967296) * (b / 4294967296) ≤ 18446744065119617025
  pub ll : (a % 4294967296) * (b % 4294967296) ≤ 18446744065119617025

pub halves : (a b : ℕ) → Fits w64 a → Fits w64 b → Halves a b
halves a b fa fb = record {
  hl = half (a / 4294967296) (b % 4294967296) (omega arith) (omega arith);
  lh = half (a % 4294967296) (b / 4294967296) (omega arith) (omega arith);
  ll = half (a % 4294967296) (b % 4294967296) (omega arith) (omega arith);
}
