-- A list parted at a byte: at its first alone, and at each. Assumes nothing.
use Rattle.std.specs.Prelude.{Option, Some, None}
use Rattle.std.specs.Option.{option_map}
use Rattle.std.specs.List.{prefix_len, position, All}
use Rattle.std.proofs.lemmas.List.Elements.{All-head, All-tail}
use Prim.Native.Nat.{ℕ, suc, ◌+◌, ◌-◌, ◌≤◌, ◌<◌}
use mathlib.Core.Path.{◌≡◌, refl, sym, ap, ◌∙◌}
use mathlib.Core.Bool.{Bool, true, false, not}
use mathlib.Core.List.{List, [], ◌∷◌, ◌++◌}
use native.Mathlib.Nat.{not-suc-le-zero}
use native.Mathlib.Numerals.{add-one}
use native.Mathlib.Omega.{arith}
use lib.Dec.{eqb, ltb}
use lib.ListN.{length, take, drop, length-drop}
use lib.Seq.{take_all}
use borrow.Author.Tests.{ltb-true, ltb-false, eq-eqb}
use Rattle.numbers.specs.Choice.{pick}
use Rattle.text.specs.Fields.{is, joined, parted, parted_once}

module _ (b : ℕ) where
  -- how many bytes stand before the first b
  abbrev before : List ℕ → ℕ
  before l = prefix_len (λ x. not (eqb x b)) l

  pub once_at : (l : List ℕ) → before l < length l → parted_once b l ≡ Some (take (before l) l, drop (suc (before l)) l)
  unfolding parted_once pick
  once_at [] h = absurd (not-suc-le-zero h)
  once_at (x ∷ l) h = cases (eqb x b) refl h (once_at l)
    where
      cases : (t : Bool) → eqb x b ≡ t → before (x ∷ l) < length (x ∷ l)
          → (before l < length l → parted_once b l ≡ Some (take (before l) l, drop (suc (before l)) l))
          → parted_once b (x ∷ l) ≡ Some (take (before (x ∷ l)) (x ∷ l), drop (suc (before (x ∷ l))) (x ∷ l))
      cases true e h k = rw e
      cases false e h k =
          let m : before l < length l = omega (arith, rw e at h) in
          let z : 1 + before l ≡ suc (before l) = omega arith in
          rw (e, z, k m)

  pub once_nowhere : (l : List ℕ) → length l ≤ before l → parted_once b l ≡ None
  unfolding parted_once pick
  once_nowhere [] h = refl
  once_nowhere (x ∷ l) h = cases (eqb x b) refl h (once_nowhere l)
    where
      cases : (t : Bool) → eqb x b ≡ t → length (x ∷ l) ≤ before (x ∷ l) → (length l ≤ before l → parted_once b l ≡ None) → parted_once b (x ∷ l) ≡ None
      cases true e h k = absurd (not-suc-le-zero (rw e at h))
      cases false e h k =
          let m : length l ≤ before l = omega (arith, rw e at h) in
          rw (e, k m)

  -- by what a search for b finds
  pub once_unfound : (l : List ℕ) → None ≡ position (λ x. eqb x b) l → None ≡ parted_once b l
  once_unfound l e = cases (ltb (before l) (length l)) refl
    where
      cases : (t : Bool) → ltb (before l) (length l) ≡ t → None ≡ parted_once b l
      cases true f = cc (rw f at e)
      cases false f = sym (once_nowhere l (ltb-false (before l) (length l) f))

  pub once_found : (l : List ℕ) (i : ℕ) → Some i ≡ position (λ x. eqb x b) l → Some (take i l, take (length l - (i + 1)) (drop (i + 1) l)) ≡ parted_once b l
  once_found l i e = cases (ltb (before l) (length l)) refl
    where
      all : take (length l - (i + 1)) (drop (i + 1) l) ≡ drop (suc i) l
      all = rw add-one (take_all (length l - suc i) (drop (suc i) l) (rw length-drop (omega arith)))

      cases : (t : Bool) → ltb (before l) (length l) ≡ t → Some (take i l, take (length l - (i + 1)) (drop (i + 1) l)) ≡ parted_once b l
      cases true f =
          let z : i ≡ before l = cc (rw f at e) in
          rw all (sym (rw z (once_at l (ltb-true (before l) (length l) f))))
      cases false f = cc (rw f at e)

  -- ---- the parts, by the first b
  by_first : List ℕ → Option (List ℕ × List ℕ) → List (List ℕ)
  by_first l None = l ∷ []
  by_first l (Some p) = p.0 ∷ parted b p.1

  parted_by_first : (l : List ℕ) → parted b l ≡ by_first l (parted_once b l)
  unfolding parted parted_once pick by_first
  parted_by_first [] = refl
  parted_by_first (x ∷ l) = cases (is b x) refl (parted_by_first l)
    where
      behind : (o : Option (List ℕ × List ℕ)) → joined x (by_first l o) ≡ by_first (x ∷ l) (option_map (λ p. (x ∷ p.0, p.1)) o)
      behind None = refl
      behind (Some p) = refl

      cases : (t : Bool) → is b x ≡ t → parted b l ≡ by_first l (parted_once b l) → parted b (x ∷ l) ≡ by_first (x ∷ l) (parted_once b (x ∷ l))
      cases true e k = rw e
      cases false e k = rw e (ap (joined x) k ∙ behind (parted_once b l))

  pub once_none : (l : List ℕ) → parted_once b l ≡ None → parted b l ≡ l ∷ []
  unfolding by_first
  once_none l e = parted_by_first l ∙ ap (by_first l) e

  pub once_some : (l p r : List ℕ) → parted_once b l ≡ Some (p, r) → parted b l ≡ p ∷ parted b r
  unfolding by_first
  once_some l p r e = parted_by_first l ∙ ap (by_first l) e

  -- there is a part
  pub parted_some : (l : List ℕ) → 0 < length (parted b l)
  unfolding by_first
  parted_some l = rw (parted_by_first l) (cases (parted_once b l))
    where
      cases : (o : Option (List ℕ × List ℕ)) → 0 < length (by_first l o)
      cases None = omega arith
      cases (Some p) = omega arith

  -- ---- the parts, by the bytes that are not b
  abbrev pub Other : ℕ → Type 0
  Other x = eqb x b ≡ false

  pub parted_whole : (l : List ℕ) → All Other l → parted b l ≡ l ∷ []
  unfolding parted pick
  parted_whole [] h = refl
  parted_whole (x ∷ l) h = rw (All-head Other x l h, parted_whole l (All-tail Other x l h))

  pub parted_at : (p r : List ℕ) → All Other p → parted b (p ++ b ∷ r) ≡ p ∷ parted b r
  unfolding parted pick
  parted_at [] r h = rw (eq-eqb b b refl)
  parted_at (x ∷ p) r h = rw (All-head Other x p h, parted_at p r (All-tail Other x p h))
