-- What the code of an operation answers on each way out is what the operation of `Lists` answers, of any kind of entry. Assumes nothing.
use Rattle.std.specs.Prelude.{Option, Some, None, Result, Err, is_ok}
use Prim.Native.Nat.{ℕ, ◌+◌, ◌-◌, ◌≤◌, ◌<◌}
use mathlib.Core.Bool.{Bool, true, false}
use mathlib.Core.Path.{◌≡◌, refl, sym, ap, ◌∙◌}
use mathlib.Core.List.{List, [], ◌++◌, append-nil}
use native.Mathlib.Omega.{arith}
use lib.Dec.{ltb, leb}
use lib.ListN.{length, take, drop, get_or, set, drop_of_length-le}
use lib.Seq.{get_or-take, length-take-le}
use borrow.Author.Tests.{lt-ltb, le-ltb, le-leb, lt-leb, ltb-true, ltb-false, leb-true, leb-false}
use Rattle.std.specs.Borrow.{Bor}
use Rattle.std.specs.List.{slice_get}
use Rattle.std.specs.Option.{option_copied}
use Rattle.std.specs.Slice.{IsItemAt}
use Rattle.std.proofs.lemmas.Option.{slice_get-get_or, slice_get_past, slice_get_read}
use Rattle.numbers.specs.Choice.{pick}
use Rattle.lists.specs.Lists.{Put, Taken, not_put, not_taken, put_of, taken_of, below, live, placed, without, put_at, taken_at, entry_at, store_at, emptied}
use Rattle.lists.proofs.Cases.{pick_case, pick_both, different}
use Rattle.lists.proofs.Loops.{Inserting, insert_done, Removing, remove_done, Emptying, empty_done}
use Rattle.lists.specs.declared.Arr.{Arr}
use Rattle.lists.specs.declared.Counted.{Counted}
use Rattle.lists.specs.declared.Full.{Full}

-- what a slice lends at a place is what stands there
item_value : {A : Type 0} (l : List A) (p : ℕ) (o : Option (Bor A)) → IsItemAt l p o → option_copied o ≡ slice_get l p
item_value l p None h = sym (slice_get_past l p h.3)
item_value l p (Some x) h = sym (slice_get_read l (length l) p x.now refl h.3.0 h.1)

module _ {A : Type 0} {n : ℕ} (cap : ℕ) (r : Arr A n) where
  -- ---- an entry goes in: the list is full, the place is past the end, the loop is done
  pub put_full : (p : ℕ) (v : A) → cap ≤ r.count → not_put r ≡ put_at cap p v r
  unfolding put_at pick
  put_full p v h = simp (le-ltb _ _ h)

  pub put-past : (p : ℕ) (v : A) → r.count < cap → r.count < p → not_put r ≡ put_at cap p v r
  unfolding put_at pick
  put-past p v h k = simp (lt-ltb _ _ h, lt-leb _ _ k)

  pub put_in : {d v carry : A} {p i m : ℕ} {l : List A} → r.count < cap → r.count + 1 ≤ i → Inserting d p v r.count r.slots i m l carry
      → record { ok = true; stores = m; list = record { slots = l; count = r.count + 1 } } ≡ put_at cap p v r
  unfolding put_at placed pick
  put_in {p = p} {m = m} h k I = let e : m ≡ r.count - p + 1 = omega (arith, I.counted, I.place, I.to) in simp (lt-ltb _ _ h, le-leb _ _ I.place, e, insert_done k I)

  -- ---- the entry at a place: what stands there among the live
  entry_live : (d : A) (p : ℕ) → cap ≤ length r.slots → slice_get (live cap r) p ≡ entry_at cap d p r
  unfolding live entry_at pick
  entry_live d p k = go (leb r.count cap) (ltb p r.count) refl refl
    where
      go : (a b : Bool) → leb r.count cap ≡ a → ltb p r.count ≡ b → slice_get (pick a (below r) []) p ≡ pick a (pick b (Some (get_or r.slots p d)) None) None
      go true true e f =
          let w : p < r.count = ltb-true _ _ f in
          let m : r.count ≤ length r.slots = omega (arith, leb-true _ _ e) in
          slice_get-get_or (below r) p d (rw (length-take-le r.count r.slots m) w) ∙ rw (get_or-take r.count r.slots p d w)
      go true false e f = let m : r.count ≤ length r.slots = omega (arith, leb-true _ _ e) in slice_get_past (below r) p (rw (length-take-le r.count r.slots m) (ltb-false _ _ f))
      go false b e f = refl

  pub entry_read : (d : A) (p : ℕ) {l : List A} (o : Option (Bor A)) → cap ≤ length r.slots → l ≡ live cap r → IsItemAt l p o → option_copied o ≡ entry_at cap d p r
  entry_read d p {l} o k e h = item_value l p o h ∙ rw e (entry_live d p k)

  pub entry_over : (d : A) (p : ℕ) → cap < r.count → None ≡ entry_at cap d p r
  unfolding entry_at pick
  entry_over d p h = simp (lt-leb _ _ h)

  pub entry_in : (d : A) (p : ℕ) → r.count ≤ cap → p < r.count → Some (get_or r.slots p d) ≡ entry_at cap d p r
  unfolding entry_at pick
  entry_in d p h k = simp (le-leb _ _ h, lt-ltb _ _ k)

  pub entry_tells : (d x : A) (p : ℕ) → Some x ≡ entry_at cap d p r → (r.count ≤ cap) × (p < r.count) × (x ≡ get_or r.slots p d)
  unfolding entry_at
  entry_tells d x p =
      pick_case (λ o. Some x ≡ o → (r.count ≤ cap) × (p < r.count) × (x ≡ get_or r.slots p d)) (leb r.count cap) _ _
      (λ e. pick_case (λ o. Some x ≡ o → (r.count ≤ cap) × (p < r.count) × (x ≡ get_or r.slots p d)) (ltb p r.count) _ _ (λ f q. (leb-true _ _ e, ltb-true _ _ f, cc)) (λ _ q. different cc))
      (λ _ q. different cc)

  -- ---- an entry comes out: there is none, or the loop is done and b, a blank, is stored
  pub take_none : (d : A) (p : ℕ) → None ≡ entry_at cap d p r → not_taken r ≡ taken_at cap d p r
  unfolding taken_at entry_at
  take_none d p =
      pick_both (λ (o : Option A) (t : Taken A n). None ≡ o → not_taken r ≡ t) (leb r.count cap) _ _ _ _
      (λ _. pick_both (λ (o : Option A) (t : Taken A n). None ≡ o → not_taken r ≡ t) (ltb p r.count) _ _ _ _ (λ _ q. different cc) (λ _ _. refl))
      (λ _ _. refl)

  pub take_in : {d b : A} {p i m : ℕ} {l : List A} → r.count ≤ cap → b ≡ d → r.count - 1 ≤ i → Removing d p r.count r.slots i m l
      → record { got = Some (get_or r.slots p d); stores = m + 1; list = record { slots = set l (r.count - 1) b; count = r.count - 1 } } ≡ taken_at cap d p r
  unfolding taken_at without pick
  take_in {p = p} {m = m} h e k R = let s : m + 1 ≡ r.count - p = omega (arith, R.counted, R.place, R.to) in simp (le-leb _ _ h, lt-ltb _ _ R.place, s, e, remove_done k R)

  -- ---- another entry at a place
  pub store_over : (v : A) (p : ℕ) → cap < r.count → record { ok = false; list = r } ≡ store_at cap p v r
  unfolding store_at pick
  store_over v p h = simp (lt-leb _ _ h)

  pub store_past : (v : A) (p : ℕ) → r.count ≤ cap → r.count ≤ p → record { ok = false; list = r } ≡ store_at cap p v r
  unfolding store_at pick
  store_past v p h k = simp (le-leb _ _ h, le-ltb _ _ k)

  pub store_in : (v : A) (p : ℕ) → r.count ≤ cap → p < r.count → record { ok = true; list = record { slots = set r.slots p v; count = r.count } } ≡ store_at cap p v r
  unfolding store_at pick
  store_in v p h k = simp (le-leb _ _ h, lt-ltb _ _ k)

  -- ---- no entry
  pub empty_over : (d : A) → cap < r.count → r ≡ emptied cap d r
  unfolding emptied pick
  empty_over d h = simp (lt-leb _ _ h)

  pub empty_in : (d : A) {i : ℕ} {l : List A} → r.count ≤ cap → r.count ≤ length r.slots → length (take r.count r.slots) ≤ i
      → Emptying d (length (take r.count r.slots)) (take r.count r.slots) i l → record { slots = l ++ drop r.count r.slots; count = 0 } ≡ emptied cap d r
  unfolding emptied pick
  empty_in d h k m E =
      let e : length (take r.count r.slots) ≡ r.count = length-take-le r.count r.slots k in
      rw (le-leb _ _ h, empty_done m E, drop_of_length-le (take r.count r.slots) {i = length (take r.count r.slots)} (omega arith), e, append-nil)

-- ---- what is so of each way out is so of the operation
module _ {A : Type 0} {n : ℕ} (cap : ℕ) where
  pub put_ways : (P : Put A n → Type 0) (i : ℕ) (v : A) (r : Arr A n)
      → (r.count < cap → i ≤ r.count → P (record { ok = true; stores = r.count - i + 1; list = placed i v r })) → P (not_put r) → P (put_at cap i v r)
  unfolding put_at
  put_ways P i v r h k = pick_case P (ltb r.count cap) _ _ (λ e. pick_case P (leb i r.count) _ _ (λ f. h (ltb-true _ _ e) (leb-true _ _ f)) (λ _. k)) (λ _. k)

  pub take_ways : (P : Taken A n → Type 0) (d : A) (i : ℕ) (r : Arr A n)
      → (r.count ≤ cap → i < r.count → P (record { got = Some (get_or r.slots i d); stores = r.count - i; list = without d i r }))
      → ((r.count ≤ cap → r.count ≤ i) → P (not_taken r)) → P (taken_at cap d i r)
  unfolding taken_at
  take_ways P d i r h k =
      pick_case P (leb r.count cap) _ _
      (λ e. pick_case P (ltb i r.count) _ _ (λ f. h (leb-true _ _ e) (ltb-true _ _ f)) (λ f. k (λ _. ltb-false _ _ f)))
      (λ e. k (λ w. let f : cap < r.count = leb-false _ _ e in absurd (omega arith)))

-- ---- what did not go in, or come out, leaves the list as it was
module _ {A : Type 0} {n : ℕ} (cap : ℕ) (r : Arr A n) {l : Arr A n} where
  pub full_same : (i : ℕ) (v : A) {f : Full} {a : Counted (Result (Unit {0}) Full)} → a.answer ≡ Err f → put_of a l ≡ put_at cap i v r → l ≡ r
  full_same i v {a = a} h =
      put_ways cap (λ q. put_of a l ≡ q → l ≡ r) i v r (λ _ _ g. different (cc (ap is_ok h, ap (λ (q : Put A n). q.ok) g))) (λ g. ap (λ (q : Put A n). q.list) g)

  pub none_same : (d : A) (i : ℕ) {a : Counted (Option A)} → a.answer ≡ None → taken_of a l ≡ taken_at cap d i r → l ≡ r
  none_same d i {a} h =
      take_ways cap (λ q. taken_of a l ≡ q → l ≡ r) d i r (λ _ _ g. different (cc (h, ap (λ (q : Taken A n). q.got) g))) (λ _ g. ap (λ (q : Taken A n). q.list) g)
