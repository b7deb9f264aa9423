-- Numbers read one by one. Assumes nothing.
use Rattle.std.specs.Prelude.{Option, Some, None}
use Rattle.std.specs.Bool.{then_some}
use Rattle.std.specs.Option.{option_map}
use Prim.Native.Nat.{ℕ, zero, suc, ◌+◌, ◌-◌, ◌≤◌, ◌<◌}
use mathlib.Core.Path.{◌≡◌, refl}
use mathlib.Core.Bool.{Bool, true, false}
use mathlib.Core.List.{List, [], ◌∷◌, ◌++◌, append-nil, append_assoc}
use native.Mathlib.Omega.{arith}
use native.Mathlib.Numerals.{add-one}
use lib.Dec.{eqb}
use lib.ListN.{length, get_or, set, take, drop, length-drop}
use lib.Seq.{take_all, take-suc-set}
use Rattle.std.proofs.lemmas.Bool.Decides.{nat_tests}
use Rattle.numbers.specs.Choice.{pick, on_some}
use Rattle.lists.proofs.Cases.{pick_case}
use Rattle.text.specs.Fields.{number}
use Rattle.text.proofs.NumberLaws.{number_empty}
use Rattle.runline.specs.Numbers.{numbers, only_numbers}

-- ---- the loop: the words that were read stand in front of those that are
abbrev pub behind : List ℕ → Option (List ℕ) → Option (List ℕ)
behind w o = option_map (λ v. w ++ v) o

none_yet : (o : Option (List ℕ)) → o ≡ behind [] o
none_yet None = refl
none_yet (Some v) = refl

pub nothing_read : (n : ℕ) (fs : List (List ℕ)) (w : List ℕ) → numbers n fs ≡ behind (take 0 w) (numbers (n - 0) fs)
nothing_read n fs w = let z : n - 0 ≡ n = omega arith in rw z (none_yet (numbers n fs))

module _ (n i : ℕ) (fs : List (List ℕ)) (w : List ℕ) where
  pub stopped : i < n → None ≡ number (get_or fs 0 []) → None ≡ behind (take i w) (numbers (n - i) fs)
  unfolding numbers on_some
  stopped h e = let z : n - i ≡ suc (n - (i + 1)) = omega arith in rw (z, ← e)

  pub went_on : (x : ℕ) → i < n → i < length w → Some x ≡ number (get_or fs 0 []) → behind (take i w) (numbers (n - i) fs) ≡ behind (take (i + 1) (set w i x)) (numbers (n - (i + 1)) (drop 1 fs))
  unfolding numbers on_some
  went_on x h k e = let z : n - i ≡ suc (n - (i + 1)) = omega arith in rw (z, ← e, add-one, take-suc-set w i x k) (cases (numbers (n - suc i) (drop 1 fs)))
    where
      cases : (o : Option (List ℕ)) → behind (take i w) (option_map (λ v. x ∷ v) o) ≡ behind (take i w ++ x ∷ []) o
      cases None = refl
      cases (Some v) = rw append_assoc

  pub all_read : n ≤ i → length w ≤ i → Some w ≡ behind (take i w) (numbers (n - i) fs)
  unfolding numbers
  all_read h k = let z : n - i ≡ 0 = omega arith in rw (z, append-nil, take_all i w k)

-- ---- whether they are all there are
-- a field that is not there writes no number
has_field : (fs : List (List ℕ)) (x : ℕ) → Some x ≡ number (get_or fs 0 []) → 0 < length fs
has_field [] x e = cc (number_empty [] refl)
has_field (f ∷ fs) x e = omega arith

tail_of : (x : ℕ) (o : Option (List ℕ)) (w : List ℕ) → Some w ≡ option_map (λ v. x ∷ v) o → (v : List ℕ) × (Some v ≡ o)
tail_of x None w e = cc
tail_of x (Some v) w e = (v, refl)

head_of : (o : Option ℕ) (k : ℕ → Option (List ℕ)) (w : List ℕ) → Some w ≡ on_some o k None → (x : ℕ) × (Some x ≡ o) × (Some w ≡ k x)
unfolding on_some
head_of None k w e = cc
head_of (Some x) k w e = (x, refl, e)

as-many : (n : ℕ) (fs : List (List ℕ)) (w : List ℕ) → Some w ≡ numbers n fs → n ≤ length fs
unfolding numbers
as-many zero fs w e = omega arith
as-many (suc n) fs w e =
    let h = head_of (number (get_or fs 0 [])) (λ x. option_map (λ v. x ∷ v) (numbers n (drop 1 fs))) w e in
    let t = tail_of h.0 (numbers n (drop 1 fs)) w h.2 in
    omega (arith, has_field fs h.0 h.1, as-many n (drop 1 fs) t.0 t.1, length-drop 1 fs)

none_left : (n : ℕ) (fs : List (List ℕ)) (w : List ℕ) → Some w ≡ numbers n fs → eqb (length (drop n fs)) 0 ≡ eqb (length fs) n
none_left n fs w e = let z : n ≤ length fs = as-many n fs w e in rw length-drop (grind (arith, nat_tests))

module _ (n : ℕ) (fs : List (List ℕ)) where
  pub only_none : None ≡ numbers n fs → None ≡ only_numbers n fs
  unfolding only_numbers
  only_none e = rw (← e) (pick_case (λ (o : Option (List ℕ)). None ≡ o) _ _ _ (λ _. refl) (λ _. refl))

  chosen : (t : Bool) (w : List ℕ) → then_some t w ≡ pick t (Some w) None
  unfolding pick
  chosen true w = refl
  chosen false w = refl

  pub only_some : (w : List ℕ) → Some w ≡ numbers n fs → then_some (eqb (length (drop n fs)) 0) w ≡ only_numbers n fs
  unfolding only_numbers
  only_some w e = rw (none_left n fs w e, ← e) (chosen (eqb (length fs) n) w)

-- for code that reads numbers to the line's end
pub ruleset only = (only_none, only_some)
