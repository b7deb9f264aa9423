-- What is so of each way out of a choice is so of the choice. Assumes nothing.
use Rattle.std.specs.Prelude.{Option, Some, None, Ok, Err, ok_or}
use mathlib.Core.Bool.{Bool, true, false}
use mathlib.Core.Path.{◌≡◌, refl, sym, ◌∙◌}
use native.Mathlib.Omega.{arith}
use Prim.Native.Nat.{ℕ, ◌≤◌, ◌<◌, min}
use lib.Dec.{leb}
use borrow.Author.Tests.{leb-true, leb-false}
use Rattle.numbers.specs.Choice.{pick, on_some}

pub pick_case : {A : Type 0} (P : A → Type 0) (b : Bool) (x y : A) → (b ≡ true → P x) → (b ≡ false → P y) → P (pick b x y)
unfolding pick
pick_case P true x y h k = h refl
pick_case P false x y h k = k refl

-- the same of two choices by one test
pub pick_both : {A B : Type 0} (P : A → B → Type 0) (b : Bool) (x y : A) (u v : B) → (b ≡ true → P x u) → (b ≡ false → P y v) → P (pick b x y) (pick b u v)
unfolding pick
pick_both P true x y u v h k = h refl
pick_both P false x y u v h k = k refl

pub some_case : {A B : Type 0} (P : B → Type 0) (o : Option A) (k : A → B) (z : B) → ((x : A) → o ≡ Some x → P (k x)) → (o ≡ None → P z) → P (on_some o k z)
unfolding on_some
some_case P None k z h g = g refl
some_case P (Some x) k z h g = h x refl

-- ---- a choice whose test is known
module _ {A : Type 0} (x y : A) {b : Bool} where
  pub on_true : b ≡ true → x ≡ pick b x y
  unfolding pick
  on_true h = rw h

  pub on_false : b ≡ false → y ≡ pick b x y
  unfolding pick
  on_false h = rw h

module _ {A B : Type 0} (k : A → B) (z : B) {o : Option A} where
  pub on_none : o ≡ None → z ≡ on_some o k z
  unfolding on_some
  on_none h = rw h

  pub on_one : {x : A} → o ≡ Some x → k x ≡ on_some o k z
  unfolding on_some
  on_one h = rw h

-- ---- facts of two ways out at once prove anything: by `cc` they make 0 the number 1
pub different : {A : Type 0} → ◌≡◌ {A = ℕ} 0 1 → A
different z = absurd (omega arith)

-- ---- what an `ok_or` found
pub some_of : {A E : Type 0} (o : Option A) (h : E) {x : A} → Ok x ≡ ok_or o h → o ≡ Some x
some_of (Some y) h e = cc
some_of None h e = different cc

pub none_of : {A E : Type 0} (o : Option A) {h e : E} → Err e ≡ ok_or o h → (o ≡ None) × (e ≡ h)
none_of (Some y) q = different cc
none_of None q = (refl, cc)

-- ---- a loop with a turn for each entry, and no more turns than places, gives all: over the capacity no turn does anything
pub enough_turns : {A : Type 0} (f : ℕ → A) (z : A) (count cap : ℕ) {turns : ℕ} → (cap < count → (k : ℕ) → f k ≡ z) → turns ≡ min count cap → f turns ≡ f count
enough_turns f z count cap {turns} over h = go (leb count cap) refl
  where
    go : (b : Bool) → leb count cap ≡ b → f turns ≡ f count
    go true e = let k : count ≤ cap = leb-true _ _ e in let g : turns ≡ count = omega (arith, h) in rw g
    go false e = let k = leb-false _ _ e in over k turns ∙ sym (over k count)
