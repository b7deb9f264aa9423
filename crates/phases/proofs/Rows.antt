-- The rows as arrays of five words. Assumes nothing.
use Prim.Native.Nat.{ℕ, zero, suc, ◌+◌, ◌*◌, ◌/◌, ◌<◌}
use mathlib.Core.Bool.{true, false}
use mathlib.Core.List.{List}
use mathlib.Core.Path.{◌≡◌, sym, ◌∙◌}
use native.Mathlib.Nat.{not-suc-le-zero}
use native.Mathlib.Omega.{arith}
use lib.Dec.{ltb}
use lib.ListN.{length, drop, get_or}
use borrow.Author.Tests.{ltb-true}
use Rattle.std.specs.Prelude.{Some, None}
use Rattle.std.specs.Simd.{first_chunks}
use Rattle.std.proofs.lemmas.List.{get_or-take, get_or-drop}
use Rattle.numbers.specs.Choice.{pick}
use Rattle.book.specs.Ticks.{tick_of}
use Rattle.book.specs.declared.config.KernelTick.{KernelTick}
use Rattle.rules.specs.Phases.{row_at}

-- word j of the array i
word_of : (n k i j : ℕ) (xs d : List ℕ) → i < k → j < n → get_or (get_or (first_chunks n k xs) i d) j 0 ≡ get_or xs (n * i + j) 0
word_of n zero i j xs d h g = absurd (not-suc-le-zero h)
word_of n (suc k) zero j xs d h g = let z : n * 0 + j ≡ j = omega arith in rw z (get_or-take n xs j 0 g)
word_of n (suc k) (suc i) j xs d h g =
    let z : n * suc i + j ≡ n + (n * i + j) = omega arith in
    rw z (word_of n k i j (drop n xs) d (omega arith) g ∙ get_or-drop n xs (n * i + j) 0)

module _ (rows : List ℕ) (i : ℕ) {n : ℕ} (five : n ≡ length rows / 5) where
  pub row_none : false ≡ ltb i n → None ≡ row_at rows i
  unfolding row_at pick
  row_none h = rw (← five, ← h)

  pub row_some : {arrays : List (List ℕ)} {words : List ℕ} {row : KernelTick} (d : List ℕ) → arrays ≡ first_chunks 5 (length rows / 5) rows → true ≡ ltb i n → words ≡ get_or arrays i d → row ≡ tick_of words → Some row ≡ row_at rows i
  unfolding row_at pick
  row_some {arrays} d e h w t =
      let below : i < n = ltb-true _ _ (sym h) in
      let zeroth : 5 * i + 0 ≡ 5 * i = omega arith in
      let at = λ (j : ℕ) (g : j < 5). word_of 5 n i j rows d below g in
      let whole : arrays ≡ first_chunks 5 n rows = rw five e in
      rw (← five, ← h, t, w, whole, at 0 (omega arith), at 1 (omega arith), at 2 (omega arith), at 3 (omega arith), at 4 (omega arith), zeroth)
