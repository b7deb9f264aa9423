-- The first entry of a list is the one that comes out of it. Assumes nothing.
use Prim.Native.Nat.{ℕ}
use mathlib.Core.Path.{◌≡◌, refl, sym, ap, ◌∙◌}
use lib.Dec.{leb, ltb}
use Rattle.std.specs.Prelude.{Option, Some}
use Rattle.lists.proofs.Cases.{pick_both}
use Rattle.lists.specs.Lists.{Taken, taken_of, taken_at, entry_at}
use Rattle.lists.specs.declared.Arr.{Arr}
use Rattle.lists.specs.declared.Counted.{Counted}

module _ {A : Type 0} {n : ℕ} (cap : ℕ) (d : A) (i : ℕ) (r : Arr A n) where
  took : (taken_at cap d i r).got ≡ entry_at cap d i r
  unfolding taken_at entry_at
  took =
      pick_both (λ (t : Taken A n) (o : Option A). t.got ≡ o) (leb r.count cap) _ _ _ _
      (λ _. pick_both (λ (t : Taken A n) (o : Option A). t.got ≡ o) (ltb i r.count) _ _ _ _ (λ _. refl) (λ _. refl)) (λ _. refl)

  -- what stands there would come out, and did
  pub would_come : {x : A} → Some x ≡ entry_at cap d i r → (taken_at cap d i r).got ≡ Some x
  would_come h = took ∙ sym h

  pub came : {x : A} {a : Counted (Option A)} {l : Arr A n} → Some x ≡ entry_at cap d i r → taken_of a l ≡ taken_at cap d i r → a.answer ≡ Some x
  came h e = ap (λ (t : Taken A n). t.got) e ∙ would_come h
