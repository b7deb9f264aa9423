-- More about sums over the slots below the count: an entry stored in its place, and a walk over the places from the front. Assumes nothing.
use Prim.Native.Nat.{ℕ, suc, ◌+◌, ◌≤◌, ◌<◌}
use mathlib.Core.List.{List, []}
use mathlib.Core.Path.{◌≡◌, refl, sym, ap, ◌∙◌}
use native.Mathlib.Numerals.{unary_clauses}
use native.Mathlib.Omega.{arith}
use Rattle.std.specs.Borrow.{Bor}
use Rattle.std.specs.Prelude.{Option, Some, None}
use Rattle.std.specs.Option.{UnwrapsOrElse}
use Rattle.std.specs.Slice.{IsGetRangeResult}
use lib.ListN.{length, take, get_or, length-take}
use lib.Seq.{take_all, take-take, get_or-take}
use borrow.Author.Tests.{lt-ltb, le-leb, lt-leb}
use Rattle.numbers.specs.Choice.{pick, on_some}
use Rattle.lists.specs.Lists.{below, live, entry_at, store_at, total}
use Rattle.lists.proofs.Sums.{Took, entry_case, stored-total, total-more}
use Rattle.lists.specs.declared.Arr.{Arr}

module _ {A : Type 0} where
  -- a count within the capacity: all below it is live
  pub live_below : {n : ℕ} (cap : ℕ) (r : Arr A n) → r.count ≤ cap → live cap r ≡ below r
  unfolding live pick
  live_below cap r h = rw (le-leb _ _ h)

  -- a count above it: nothing is
  pub live_none : {n : ℕ} (cap : ℕ) (r : Arr A n) → cap < r.count → live cap r ≡ []
  unfolding live pick
  live_none cap r h = rw (lt-leb _ _ h)

  -- the slots up to the count are lent, or nothing where it is past them
  pub live_lent : {n : ℕ} (cap : ℕ) (r : Arr A n) (o : Option (Bor (List A))) (x : Bor (List A)) → length r.slots ≡ cap → IsGetRangeResult r.slots 0 r.count o → UnwrapsOrElse o (λ y. y.now ≡ []) x → x.now ≡ live cap r
  live_lent cap r None x h g u = u ∙ sym (live_none cap r (omega (arith, h, g.0)))
  live_lent cap r (Some y) x h g u = rw u (simp unary_clauses at g.0.2) ∙ sym (live_below cap r (omega (arith, h, g.0.1)))

-- ---- what is known of a list after an entry was stored at place i
pub record Stored {A : Type 0} {n : ℕ} (d : A) (i : ℕ) (v : A) (r l : Arr A n) : Type 0 where
  pub same_count : l.count ≡ r.count
  pub sums : (f : A → ℕ) → f (get_or r.slots i d) + total f (below l) ≡ f v + total f (below r)

module _ {A : Type 0} {n : ℕ} (cap : ℕ) where
  pub stored : (d : A) (i : ℕ) (v : A) (r : Arr A n) → r.count ≤ cap → i < r.count → i < length r.slots → Stored d i v r (store_at cap i v r).list
  unfolding store_at pick
  stored d i v r n w k = rw (le-leb _ _ n, lt-ltb _ _ w) (record { same_count = refl; sums = λ f. stored-total f r.count i v d r.slots w k })

-- ---- the entries before place i
module _ {A : Type 0} (f : A → ℕ) where
  -- past the count there are no more
  pub front-all : {n : ℕ} (i : ℕ) (r : Arr A n) → r.count ≤ i → total f (take i (below r)) ≡ total f (below r)
  front-all i r w = ap (total f) (take_all i (below r) (omega (arith, length-take r.count r.slots)))

  -- where f of the entry at place i is 0, or none stands there, the next place has no greater sum
  pub front-more : {n : ℕ} (cap : ℕ) (d : A) (i : ℕ) (r : Arr A n) → f d ≡ 0 → r.count ≤ cap → on_some (entry_at cap d i r) f 0 ≡ 0
      → total f (take (suc i) (below r)) ≡ total f (take i (below r))
  front-more cap d i r z n =
      entry_case cap (λ x. x ≡ 0 → total f (take (suc i) (below r)) ≡ total f (take i (below r))) d i r f 0
      (λ _ w e. let g : f (get_or (below r) i d) ≡ 0 = rw (get_or-take r.count r.slots i d w) e in omega (arith, total-more f i d (below r) z))
      (λ w _. let k = w n in front-all (suc i) r (omega arith) ∙ sym (front-all i r k))

-- an entry that comes out leaves those before it
pub front_same : {n : ℕ} {A : Type 0} (cap : ℕ) (d : A) (i : ℕ) (r : Arr A n) (x : A) (l : Arr A n) → Took cap d i r x l → i < length r.slots → take i (below l) ≡ take i (below r)
front_same cap d i r x l k w =
    take-take i l.count l.slots (omega (arith, k.inside, k.one_less)) ∙ k.front w ∙ sym (take-take i r.count r.slots (omega (arith, k.inside)))
