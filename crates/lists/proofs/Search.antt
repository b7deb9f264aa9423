-- What std's search of the live entries finds is the place that the definitions speak of. Assumes nothing.
use Prim.Native.Nat.{ℕ, ◌≤◌}
use mathlib.Core.Bool.{Bool, true, false}
use mathlib.Core.List.{List}
use mathlib.Core.Path.{◌≡◌, refl, ◌∙◌}
use native.Mathlib.Omega.{arith}
use lib.Dec.{ltb}
use lib.ListN.{length}
use borrow.Author.Tests.{ltb-false}
use Rattle.std.specs.Prelude.{Option, Some, None, not, cond}
use Rattle.std.specs.Borrow.{Bor}
use Rattle.std.specs.Fn.{Called}
use Rattle.std.specs.Iterator.{YieldsThen}
use Rattle.std.specs.List.{FoldsTo}
use Rattle.std.specs.Option.{unwrap_or, MatchOption}
use Rattle.std.specs.Slice.Iter.{iter_rest}
use Rattle.std.proofs.Common.{Iter}
use Rattle.std.proofs.lemmas.List.Sums.{prefix_len-le-length}
use Rattle.std.proofs.iter.Yields.{fronts}
use Rattle.std.proofs.lemmas.Iterator.{YieldsList-from_slice}
use Rattle.std.proofs.lemmas.Iterator.Search.{position_from_yields_List}
use denote.Param.Members.{Mut}
use Rattle.lists.specs.Lists.{before, found_in}

module _ {A : Type 0} (p : A → Bool) where
  -- what std's search answered, of a slice that is the list l
  pub found_from : {F : Type 0} {g : Mut F (Bor A × Unit {0}) Bool} {s : Iter A} {t : Iter A} {f : F} {o : Option ℕ} {k l : List A}
      → ((xs : List (Bor A)) × (x : Option (Bor A)) × (j : F) × YieldsThen fronts s xs x t × FoldsTo (λ p x q. Called g p (x, tt) false q) f xs j × MatchOption x (o ≡ None) (λ x. (o ≡ Some (length xs)) × ((h : F) × Called g j (x, tt) true h)))
      → iter_rest s ≡ k → k ≡ l → ((x : Bor A) (b : Bool) (q : F) → Called g f (x, tt) b q → (q ≡ f) × (b ≡ p x.now)) → o ≡ found_in p l
  unfolding found_in
  found_from {t = t} {f = f} {o = o} {k = k} {l = l} ran rest is test = position_from_yields_List p t f o ran (YieldsList-from_slice k rest) test ∙ rw is

  pub before_fits : (l : List A) → before p l ≤ length l
  unfolding before
  before_fits l = prefix_len-le-length (λ x. not (p x)) l

  -- the place that the search found, else the one behind the last
  found_or_end : (l : List A) → unwrap_or (found_in p l) (length l) ≡ before p l
  unfolding found_in before
  found_or_end l = if_case (λ (o : Option ℕ). unwrap_or o (length l) ≡ before p l) (ltb (before p l) (length l)) refl (λ e. omega (arith, ltb-false _ _ e, before_fits l))
    where
      if_case : (P : Option ℕ → Type 0) (b : Bool) → P (Some (before p l)) → (b ≡ false → P None) → P (cond b (Some (before p l)) None)
      if_case P true h k = h
      if_case P false h k = k refl

  pub before_from : {o : Option ℕ} {i : ℕ} {k l : List A} → o ≡ found_in p l → k ≡ l → i ≡ unwrap_or o (length k) → i ≡ before p l
  before_from {l = l} found is end = end ∙ rw (found, is) (found_or_end l)
