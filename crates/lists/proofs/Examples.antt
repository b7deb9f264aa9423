-- Worked examples, of numbers, by computation. Assumes nothing.
use Rattle.std.specs.Prelude.{Some, None}
use Prim.Native.Nat.{ℕ}
use mathlib.Core.Path.{◌≡◌, refl}
use mathlib.Core.Bool.{true, false}
use mathlib.Core.List.{[], ◌∷◌}
use lib.Dec.{ltb, eqb}
use Rattle.numbers.specs.Choice.{pick}
use Rattle.lists.specs.Lists.{live, insert_at, remove_at, before, found_in, placed, without, put_at, put_before, taken_at, store_at, emptied}
use Rattle.lists.specs.declared.Arr.{Arr}

-- three live of four, with a 7 in the slot past them
abbrev three : Arr ℕ 4
three = record { slots = 1 ∷ 3 ∷ 5 ∷ 7 ∷ []; count = 3 }

-- 3 goes before the first that is greater, so behind the 3 that stands, and overwrites the 7: the 3 and the 5 are stored
pub goes_in : put_before 4 (λ n. ltb 3 n) 3 three ≡ record { ok = true; stores = 2; list = record { slots = 1 ∷ 3 ∷ 3 ∷ 5 ∷ []; count = 4 } }
unfolding put_at placed insert_at before live pick
goes_in = refl

-- the first leaves, the last live slot becomes blank (a 0), and the 7 stands: the 3, the 5 and the blank are stored
pub comes_out : taken_at 4 0 0 three ≡ record { got = Some 1; stores = 3; list = record { slots = 3 ∷ 5 ∷ 0 ∷ 7 ∷ []; count = 2 } }
unfolding taken_at without remove_at pick
comes_out = refl

-- emptying blanks what was live and no other slot
pub empties : emptied 4 0 three ≡ record { slots = 0 ∷ 0 ∷ 0 ∷ 7 ∷ []; count = 0 }
unfolding emptied pick
empties = refl

-- full; no such place; a count above the capacity
pub full : put_at {A = ℕ} 3 0 9 three ≡ record { ok = false; stores = 0; list = three }
unfolding put_at pick
full = refl

pub nowhere : taken_at 4 0 3 three ≡ record { got = None; stores = 0; list = three }
unfolding taken_at pick
nowhere = refl

pub above : store_at 2 0 9 three ≡ record { ok = false; list = three }
unfolding store_at pick
above = refl

-- a search looks at the live entries alone
pub found : found_in (λ n. eqb n 5) (live 4 three) ≡ Some 2
unfolding found_in before live pick
found = refl

pub past_the_live : found_in (λ n. eqb n 7) (live 4 three) ≡ None
unfolding found_in before live pick
past_the_live = refl
