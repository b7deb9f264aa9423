-- The fields of a line that are left: the first of them, and those behind it. Assumes nothing.
use Rattle.std.specs.Prelude.{Option, Some, None, slice_get}
use Rattle.std.specs.Option.{is_some}
use Prim.Native.Nat.{ℕ}
use mathlib.Core.Path.{◌≡◌, refl, sym}
use mathlib.Core.Bool.{Bool, true, false, not}
use mathlib.Core.List.{List, [], ◌∷◌}
use native.Mathlib.Omega.{arith}
use lib.Dec.{eqb}
use lib.ListN.{length, get_or}
use denote.Ref.{Bor}
use borrow.Author.Tests.{ne_eqb}
use Rattle.numbers.specs.Choice.{on_some}
use Rattle.text.specs.declared.Fields.{Fields}
use Rattle.text.specs.Cursor.{left}
use Rattle.text.specs.Fields.{fields}
use Rattle.text.proofs.PartedLaws.{parted_some}

-- what is left behind a field
pub left_behind : (rest : Bor (List ℕ)) → left (record { rest = Some rest }) ≡ fields rest.now
unfolding left on_some
left_behind rest = refl

pub left_last : left (record { rest = None }) ≡ []
unfolding left on_some
left_last = refl

module _ (f : Fields) where
  pub left_none : f.rest ≡ None → left f ≡ []
  unfolding left on_some
  left_none e = rw e

  pub left_some : (line : Bor (List ℕ)) → f.rest ≡ Some line → left f ≡ fields line.now
  unfolding left on_some
  left_some line e = rw e

  -- there is one where a rest of the line is left
  pub left_empty : (r : Bool) → is_some f.rest ≡ not r → r ≡ eqb (length (left f)) 0
  unfolding left on_some
  left_empty r e = cases f.rest refl r e
    where
      cases : (o : Option (Bor (List ℕ))) → f.rest ≡ o → (r : Bool) → is_some f.rest ≡ not r → r ≡ eqb (length (left f)) 0
      cases None g true e = rw g
      cases None g false e = cc (rw g at e)
      cases (Some line) g true e = cc (rw g at e)
      cases (Some line) g false e = rw g (sym (ne_eqb (length (fields line.now)) 0 (λ z. omega (arith, parted_some 32 line.now))))

-- where there is no first there is none
pub first_none : (ls : List (List ℕ)) → None ≡ slice_get ls 0 → ls ≡ []
first_none [] e = refl
first_none (l ∷ ls) e = cc

-- the first of some lists
pub first_some : (ls : List (List ℕ)) (l : List ℕ) → Some l ≡ slice_get ls 0 → get_or ls 0 [] ≡ l
first_some [] l e = cc
first_some (m ∷ ls) l e = cc
