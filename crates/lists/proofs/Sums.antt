-- Sums over the slots below the count, whatever the length of the row: a blank adds nothing. What an operation does to them, as one case for each way out.
-- Assumes nothing.
use Rattle.std.specs.Prelude.{Some}
use Rattle.numbers.specs.Choice.{on_some}
use Prim.Native.Nat.{ℕ, zero, suc, ◌+◌, ◌-◌, ◌≤◌, ◌<◌}
use mathlib.Core.Bool.{Bool, true, false}
use mathlib.Core.Path.{◌≡◌, refl, ap, ◌∙◌}
use mathlib.Core.List.{List, [], ◌∷◌, ◌++◌}
use native.Mathlib.Nat.{not-suc-le-zero, le_of_suc-le-suc}
use native.Mathlib.Omega.{arith}
use lib.ListN.{length, take, drop, get_or, set, length-append, length-take, drop_of_length-le}
use lib.Seq.{length-take-le, take_at, take_all, take-nil, take-take, get_or-take, take-set-lt}
use borrow.Author.Tests.{ltb-true, ltb-false, leb-true, leb-false}
use lib.Dec.{ltb, leb}
use Rattle.std.proofs.lemmas.List.Quantifiers.{position-Some}
use Rattle.lists.specs.Lists.{Put, Taken, StoredAt, not_put, not_taken, insert_at, remove_at, found_in, below, live, placed, without, put_at, taken_at, entry_at, store_at, total}
use Rattle.lists.proofs.Cases.{pick_case}
use Rattle.lists.proofs.Exits.{put_ways, take_ways}
use Rattle.lists.proofs.Loops.{insert_at-length, remove_at-length}
use Rattle.lists.specs.declared.Arr.{Arr}

module _ {A : Type 0} where
  remove_most : (i : ℕ) (l : List A) → length (remove_at i l) ≤ length l
  unfolding remove_at
  remove_most zero [] = omega arith
  remove_most (suc i) [] = omega arith
  remove_most zero (x ∷ l) = omega arith
  remove_most (suc i) (x ∷ l) = let e = remove_most i l in omega arith

  remove_front : (i : ℕ) (l m : List A) → i < length l → take i (remove_at i l ++ m) ≡ take i l
  unfolding remove_at
  remove_front i [] m h = absurd (not-suc-le-zero h)
  remove_front zero (x ∷ l) m h = refl
  remove_front (suc i) (x ∷ l) m h = ap (λ t. x ∷ t) (remove_front i l m (le_of_suc-le-suc h))

  -- an entry that comes out leaves the slots before its place
  pub without_front : {n : ℕ} (d : A) (i : ℕ) (r : Arr A n) → i < r.count → i < length r.slots → take i (without d i r).slots ≡ take i r.slots
  unfolding without
  without_front d i r h k = let w : i < length (below r) = rw length-take (omega arith) in remove_front i (below r) _ w ∙ take-take i r.count r.slots (omega arith)

module _ {A : Type 0} (f : A → ℕ) where
  pub total-append : (a b : List A) → total f (a ++ b) ≡ total f a + total f b
  unfolding total
  total-append [] b = omega arith
  total-append (x ∷ a) b = let e = total-append a b in omega arith

  total_insert : (i : ℕ) (v : A) (l : List A) → total f (insert_at i v l) ≡ f v + total f l
  unfolding total insert_at
  total_insert zero v l = refl
  total_insert (suc i) v [] = refl
  total_insert (suc i) v (x ∷ l) = let e = total_insert i v l in omega arith

  total_remove : (i : ℕ) (d : A) (l : List A) → f d ≡ 0 → f (get_or l i d) + total f (remove_at i l) ≡ total f l
  unfolding total remove_at
  total_remove zero d [] h = omega arith
  total_remove (suc i) d [] h = omega arith
  total_remove zero d (x ∷ l) h = refl
  total_remove (suc i) d (x ∷ l) h = let e = total_remove i d l h in omega arith

  total-set : (i : ℕ) (v d : A) (l : List A) → i < length l → f (get_or l i d) + total f (set l i v) ≡ f v + total f l
  unfolding total
  total-set i v d [] h = absurd (not-suc-le-zero h)
  total-set zero v d (x ∷ l) h = omega arith
  total-set (suc i) v d (x ∷ l) h = let e = total-set i v d l (le_of_suc-le-suc h) in omega arith

  -- a blank behind the entries adds nothing
  total_pad : (m : ℕ) (d : A) (l : List A) → f d ≡ 0 → length l ≤ m → total f (take m (l ++ d ∷ [])) ≡ total f l
  unfolding total
  total_pad zero d [] z h = refl
  total_pad (suc m) d [] z h = rw (take-nil m) (omega arith)
  total_pad zero d (x ∷ l) z h = absurd (not-suc-le-zero h)
  total_pad (suc m) d (x ∷ l) z h = let e = total_pad m d l z (le_of_suc-le-suc h) in omega arith

  -- the first n of a list, and one more
  pub total-more : (n : ℕ) (d : A) (l : List A) → f d ≡ 0 → total f (take (suc n) l) ≡ f (get_or l n d) + total f (take n l)
  unfolding total
  total-more zero d [] z = omega arith
  total-more (suc n) d [] z = omega arith
  total-more zero d (x ∷ l) z = refl
  total-more (suc n) d (x ∷ l) z = let e = total-more n d l z in omega arith

  pub total-fewer : (n m : ℕ) (l : List A) → n ≤ m → total f (take n l) ≤ total f (take m l)
  unfolding total
  total-fewer zero m l h = omega arith
  total-fewer (suc n) zero l h = absurd (not-suc-le-zero h)
  total-fewer (suc n) (suc m) [] h = omega arith
  total-fewer (suc n) (suc m) (x ∷ l) h = let e = total-fewer n m l (le_of_suc-le-suc h) in omega arith

  -- where f is 0 of each entry, so is g
  pub total_none : (g : A → ℕ) → ((x : A) → f x ≡ 0 → g x ≡ 0) → (l : List A) → total f l ≡ 0 → total g l ≡ 0
  unfolding total
  total_none g h [] z = refl
  total_none g h (x ∷ l) z = let e = total_none g h l (omega arith) in let k = h x (omega arith) in omega arith

  -- what is not blank stands in a slot
  pub there : (l : List A) (i : ℕ) (d : A) → f d ≡ 0 → 0 < f (get_or l i d) → i < length l
  there [] i d z h = absurd (omega arith)
  there (x ∷ l) zero d z h = omega arith
  there (x ∷ l) (suc i) d z h = let e = there l i d z h in omega arith

  -- ---- whole operations
  placed_total : {n : ℕ} (i : ℕ) (v : A) (r : Arr A n) → total f (below (placed i v r)) ≡ f v + total f (below r)
  unfolding placed total
  placed_total i v r = go (leb r.count (length r.slots)) refl
    where
      go : (b : Bool) → leb r.count (length r.slots) ≡ b → total f (take (r.count + 1) (insert_at i v (below r) ++ drop (r.count + 1) r.slots)) ≡ f v + total f (below r)
      go true e =
          let n : r.count ≤ length r.slots = leb-true _ _ e in
          rw (take_at (insert_at i v (below r)) (drop (r.count + 1) r.slots) (r.count + 1) (insert_at-length i v (below r) ∙ ap suc (length-take-le r.count r.slots n) ∙ omega arith)) (total_insert i v (below r))
      go false e =
          let n : length r.slots < r.count = leb-false _ _ e in
          let z : drop (r.count + 1) r.slots ≡ [] = drop_of_length-le r.slots {i = r.count + 1} (omega arith) in
          let k : length (insert_at i v (below r) ++ []) ≤ r.count + 1 = rw (length-append, insert_at-length, length-take) (omega arith) in
          rw (z, take_all (r.count + 1) (insert_at i v (below r) ++ []) k, total-append (insert_at i v (below r)) [], total_insert i v (below r)) (omega arith)

  without-total : {n : ℕ} (d : A) (i : ℕ) (r : Arr A n) → f d ≡ 0 → i < r.count → f (get_or r.slots i d) + total f (below (without d i r)) ≡ total f (below r)
  unfolding without
  without-total d i r z h = go (leb r.count (length r.slots)) refl
    where
      same : f (get_or r.slots i d) + total f (remove_at i (below r)) ≡ total f (below r)
      same = rw (← get_or-take r.count r.slots i d h) (total_remove i d (below r) z)

      go : (b : Bool) → leb r.count (length r.slots) ≡ b → f (get_or r.slots i d) + total f (take (r.count - 1) (remove_at i (below r) ++ d ∷ drop r.count r.slots)) ≡ total f (below r)
      go true e =
          let n : r.count ≤ length r.slots = leb-true _ _ e in
          let t : length (below r) ≡ r.count = length-take-le r.count r.slots n in
          let k : length (remove_at i (below r)) ≡ r.count - 1 = omega (arith, remove_at-length i (below r) (omega arith)) in
          rw (take_at (remove_at i (below r)) (d ∷ drop r.count r.slots) (r.count - 1) k) same
      go false e =
          let n : length r.slots < r.count = leb-false _ _ e in
          let b : drop r.count r.slots ≡ [] = drop_of_length-le r.slots {i = r.count} (omega arith) in
          let k : length (remove_at i (below r)) ≤ r.count - 1 = omega (arith, remove_most i (below r), length-take r.count r.slots) in
          rw (b, total_pad (r.count - 1) d (remove_at i (below r)) z k) same

  pub stored-total : (n i : ℕ) (v d : A) (l : List A) → i < n → i < length l → f (get_or l i d) + total f (take n (set l i v)) ≡ f v + total f (take n l)
  stored-total n i v d l h k =
      let w : i < length (take n l) = rw length-take (omega arith) in
      rw (take-set-lt n l i v h, ← get_or-take n l i d h) (total-set i v d (take n l) w)

-- ---- what is known of a list after an entry went in, or came out
pub record Added {A : Type 0} {n : ℕ} (cap : ℕ) (v : A) (r l : Arr A n) : Type 0 where
  pub room : l.count ≤ cap
  pub one_more : l.count ≡ r.count + 1
  pub sums : (f : A → ℕ) → total f (below l) ≡ f v + total f (below r)

pub record Took {A : Type 0} {n : ℕ} (cap : ℕ) (d : A) (i : ℕ) (r : Arr A n) (x : A) (l : Arr A n) : Type 0 where
  pub within : r.count ≤ cap
  pub inside : i < r.count
  pub is : x ≡ get_or r.slots i d
  pub one_less : l.count + 1 ≡ r.count
  pub sums : (f : A → ℕ) → f d ≡ 0 → f x + total f (below l) ≡ total f (below r)
  pub front : i < length r.slots → take i l.slots ≡ take i r.slots

module _ {A : Type 0} {n : ℕ} (cap : ℕ) where
  added : (i : ℕ) (v : A) (r : Arr A n) → r.count < cap → Added cap v r (placed i v r)
  unfolding placed
  added i v r w = record { room = omega arith; one_more = refl; sums = λ f. placed_total f i v r }

  pub put_case : (P : Put A n → Type 0) (i : ℕ) (v : A) (r : Arr A n)
      → ((l : Arr A n) → Added cap v r l → P (record { ok = true; stores = r.count - i + 1; list = l })) → P (not_put r) → P (put_at cap i v r)
  put_case P i v r h k = put_ways cap P i v r (λ w _. h _ (added i v r w)) k

  took : (d : A) (i : ℕ) (r : Arr A n) → r.count ≤ cap → i < r.count → Took cap d i r (get_or r.slots i d) (without d i r)
  unfolding without
  took d i r n h =
      record {
        within = n;
        inside = h;
        is = refl;
        one_less = omega arith;
        sums = λ f z. without-total f d i r z h;
        front = without_front d i r h;
      }

  pub take_case : (P : Taken A n → Type 0) (d : A) (i : ℕ) (r : Arr A n)
      → ((x : A) (l : Arr A n) → Took cap d i r x l → P (record { got = Some x; stores = r.count - i; list = l }))
      → ((r.count ≤ cap → r.count ≤ i) → P (not_taken r)) → P (taken_at cap d i r)
  take_case P d i r h k = take_ways cap P d i r (λ n w. h _ _ (took d i r n w)) k

  pub entry_case : {B : Type 0} (P : B → Type 0) (d : A) (i : ℕ) (r : Arr A n) (k : A → B) (z : B)
      → (r.count ≤ cap → i < r.count → P (k (get_or r.slots i d))) → ((r.count ≤ cap → r.count ≤ i) → P z) → P (on_some (entry_at cap d i r) k z)
  unfolding entry_at on_some
  entry_case P d i r k z h g =
      pick_case (λ o. P (on_some o k z)) (leb r.count cap) _ _
      (λ e. pick_case (λ o. P (on_some o k z)) (ltb i r.count) _ _ (λ w. h (leb-true _ _ e) (ltb-true _ _ w)) (λ w. g (λ _. ltb-false _ _ w)))
      (λ e. g (λ n. let w : cap < r.count = leb-false _ _ e in absurd (omega arith)))

  pub store_case : (P : StoredAt A n → Type 0) (i : ℕ) (v : A) (r : Arr A n)
      → (r.count ≤ cap → i < r.count → P (record { ok = true; list = record { slots = set r.slots i v; count = r.count } })) → P (record { ok = false; list = r })
      → P (store_at cap i v r)
  unfolding store_at
  store_case P i v r h k =
      pick_case P (leb r.count cap) _ _ (λ e. pick_case P (ltb i r.count) _ _ (λ w. h (leb-true _ _ e) (ltb-true _ _ w)) (λ _. k)) (λ _. k)

-- ---- a search finds what fits, no further than the entries
module _ {A : Type 0} (p : A → Bool) (d : A) where
  -- of a list: the count is within the capacity, the place is below the count, and what stands there fits
  pub found-live : {n : ℕ} (cap : ℕ) (r : Arr A n) (i : ℕ) → found_in p (live cap r) ≡ Some i → (r.count ≤ cap) × (i < r.count) × (p (get_or r.slots i d) ≡ true)
  unfolding live found_in
  found-live cap r i =
      pick_case (λ l. found_in p l ≡ Some i → (r.count ≤ cap) × (i < r.count) × (p (get_or r.slots i d) ≡ true)) (leb r.count cap) _ _
      (λ e q.
      let n = position-Some p (below r) i d q in
      let k : i < r.count = omega (arith, n.0, length-take r.count r.slots) in
      (leb-true _ _ e, k, rw (← (get_or-take r.count r.slots i d k)) n.1))
      (λ e q. absurd (omega (arith, (position-Some p [] i d q).0)))
