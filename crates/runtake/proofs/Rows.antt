-- Where a row's words fit, they are stored one by one. Assumes nothing.
use Prim.Native.Nat.{ℕ, zero, suc, ◌+◌, ◌*◌, ◌≤◌, ◌<◌}
use mathlib.Core.List.{List, [], ◌∷◌, ◌++◌}
use mathlib.Core.Path.{◌≡◌, refl, ap}
use native.Mathlib.Omega.{arith}
use lib.ListN.{length, take, drop, set}
use Rattle.book.specs.Ticks.{tick_words}
use Rattle.book.specs.declared.config.KernelTick.{KernelTick}
use Rattle.std.specs.Prelude.{Some}
use borrow.Author.Tests.{lt-ltb, le-ltb}
use Rattle.numbers.specs.Choice.{pick}
use Rattle.runtake.specs.Take.{Reading, row_stored, take_row}

set_five : (a : ℕ) (p q r s t : ℕ) (w : List ℕ) → 5 + a ≤ length w
    → take a w ++ ((p ∷ q ∷ r ∷ s ∷ t ∷ []) ++ drop 5 (drop a w))
    ≡ set (set (set (set (set w a p) (suc a) q) (suc (suc a)) r) (suc (suc (suc a))) s) (suc (suc (suc (suc a)))) t
set_five zero p q r s t [] h = absurd (omega arith)
set_five zero p q r s t (x₁ ∷ []) h = absurd (omega arith)
set_five zero p q r s t (x₁ ∷ x₂ ∷ []) h = absurd (omega arith)
set_five zero p q r s t (x₁ ∷ x₂ ∷ x₃ ∷ []) h = absurd (omega arith)
set_five zero p q r s t (x₁ ∷ x₂ ∷ x₃ ∷ x₄ ∷ []) h = absurd (omega arith)
set_five zero p q r s t (x₁ ∷ x₂ ∷ x₃ ∷ x₄ ∷ x₅ ∷ w) h = refl
set_five (suc a) p q r s t [] h = absurd (omega arith)
set_five (suc a) p q r s t (x ∷ w) h = ap (λ (l : List ℕ). x ∷ l) (set_five a p q r s t w (omega arith))

stored : (t : KernelTick) (n : ℕ) (w : List ℕ) → n * 5 + 5 ≤ length w → take (n * 5) w ++ (tick_words t ++ drop 5 (drop (n * 5) w)) ≡ row_stored t n w
stored t n w h =
    let a : ℕ = n * 5 in
    let e₁ : a + 1 ≡ suc a = omega arith in
    let e₂ : a + 2 ≡ suc (suc a) = omega arith in
    let e₃ : a + 3 ≡ suc (suc (suc a)) = omega arith in
    let e₄ : a + 4 ≡ suc (suc (suc (suc a))) = omega arith in
    rw (e₁, e₂, e₃, e₄) (set_five a t.ts_ns t.bid t.bid_lots t.ask t.ask_lots w (omega (arith, h)))

-- the words of a row that may stand here, copied into their place: x is what was copied over m words
pub row_in : (n : ℕ) (t : KernelTick) (r : Reading) {x : List ℕ} {m : ℕ} → 2 ≤ n → r.rows < 512 → 2560 ≤ length r.words → x ≡ tick_words t → m ≡ 5
    → Some (record r { words = take (r.rows * 5) r.words ++ (x ++ drop m (drop (r.rows * 5) r.words)); rows = r.rows + 1 }) ≡ take_row n t r
unfolding take_row pick
row_in n t r a b h e k = rw (e, k, le-ltb _ _ a, lt-ltb _ _ b, stored t r.rows r.words (omega (arith, h, b)))
