-- N3: an insertion and a removal change no slot before the place, and none behind the ones that they count. Assumes nothing.
use Prim.Native.Nat.{ℕ, zero, suc, ◌+◌, ◌-◌, ◌≤◌, ◌<◌}
use mathlib.Core.Path.{◌≡◌, refl, ap, ◌∙◌}
use mathlib.Core.List.{List, [], ◌∷◌, ◌++◌, append_assoc}
use native.Mathlib.Nat.{not-suc-le-zero, le_of_suc-le-suc}
use native.Mathlib.Omega.{arith}
use lib.ListN.{length, take, drop, length-append}
use lib.Seq.{length-take-le, take-take}
use Rattle.std.proofs.lemmas.List.{drop_at}
use Rattle.std.specs.Prelude.{is_some}
use Rattle.numbers.specs.Choice.{pick}
use Rattle.lists.specs.Lists.{insert_at, remove_at, below, placed, without}
use Rattle.lists.specs.Stores.{Window, Stores}
use Rattle.lists.proofs.Exits.{put_ways, take_ways}
use Rattle.lists.proofs.Loops.{insert_at-length, remove_at-length}
use Rattle.lists.proofs.Sums.{without_front}
use Rattle.lists.specs.declared.Arr.{Arr}

module _ {A : Type 0} where
  insert_front : (i : ℕ) (v : A) (l m : List A) → i ≤ length l → take i (insert_at i v l ++ m) ≡ take i l
  unfolding insert_at
  insert_front zero v l m h = refl
  insert_front (suc i) v [] m h = absurd (not-suc-le-zero h)
  insert_front (suc i) v (x ∷ l) m h = ap (λ t. x ∷ t) (insert_front i v l m (le_of_suc-le-suc h))

  unchanged : (i : ℕ) (k : List A) → Window i 0 k k
  unchanged i k = record { before = refl; behind = refl }

  module _ {n : ℕ} (i : ℕ) (r : Arr A n) (h : r.count ≤ length r.slots) where
    live_long : length (below r) ≡ r.count
    live_long = length-take-le r.count r.slots h

    placed-window : (v : A) → i ≤ r.count → Window i (r.count - i + 1) r.slots (placed i v r).slots
    unfolding placed
    placed-window v k =
        let e : i + (r.count - i + 1) ≡ r.count + 1 = omega arith in
        let w : length (insert_at i v (below r)) ≡ r.count + 1 = omega (arith, insert_at-length i v (below r), live_long) in
        record {
          before = insert_front i v (below r) _ (omega (arith, live_long)) ∙ take-take i r.count r.slots k;
          behind = rw e (drop_at (insert_at i v (below r)) (drop (r.count + 1) r.slots) (r.count + 1) w);
        }

    without-window : (d : A) → i < r.count → Window i (r.count - i) r.slots (without d i r).slots
    unfolding without
    without-window d k =
        let e : i + (r.count - i) ≡ r.count = omega arith in
        let w : length (remove_at i (below r)) + 1 ≡ r.count = omega (arith, remove_at-length i (below r) (omega (arith, live_long)), live_long) in
        record {
          before = without_front d i r k (omega arith);
          behind = rw (e, ← append_assoc (remove_at i (below r)) (d ∷ []) (drop r.count r.slots)) (drop_at (remove_at i (below r) ++ d ∷ []) (drop r.count r.slots) r.count (length-append (remove_at i (below r)) (d ∷ []) ∙ w));
        }

pub stores : {A : Type 0} {n : ℕ} (cap i : ℕ) (v blank : A) (r : Arr A n) → Stores cap i v blank r
unfolding pick
stores cap i v blank r =
    record {
      inserted = put_ways cap (λ q. q.stores ≡ pick q.ok (r.count - i + 1) 0) i v r (λ _ _. refl) refl;
      removed = take_ways cap (λ t. t.stores ≡ pick (is_some t.got) (r.count - i) 0) blank i r (λ _ _. refl) (λ _. refl);
      inserting = λ h. put_ways cap (λ q. Window i q.stores r.slots q.list.slots) i v r (λ e w. placed-window i r (omega arith) v w) (unchanged i r.slots);
      removing = λ h. take_ways cap (λ t. Window i t.stores r.slots t.list.slots) blank i r (λ e w. without-window i r (omega arith) blank w) (λ _. unchanged i r.slots);
    }
