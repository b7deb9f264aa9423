-- The laws of a loop that rewrites or searches a row of slots from the front: what the row is to become stands before place i, what it was from place i on.
-- Assumes nothing.
use Prim.Native.Nat.{ℕ, zero, suc, ◌+◌, ◌-◌, ◌≤◌, ◌<◌}
use mathlib.Core.Path.{◌≡◌, refl, sym, ap, ◌∙◌}
use mathlib.Core.List.{List, [], ◌∷◌, ◌++◌}
use native.Mathlib.Nat.{not-suc-le-zero, le_of_suc-le-suc}
use native.Mathlib.Numerals.{add-one}
use native.Mathlib.Omega.{arith}
use lib.ListN.{length, take, drop, get_or, set, replicate}
use Rattle.std.proofs.lemmas.List.{get_or_default}
use lib.Seq.{drop-cons, get_or-take, length-take-le}
use Rattle.lists.specs.Lists.{insert_at, remove_at}

module _ {A : Type 0} where
  -- ---- t before place i, s from it on
  abbrev pub weave : ℕ → List A → List A → List A
  weave i t s = take i t ++ drop i s

  weave_more : (i : ℕ) (t s : List A) (d : A) → i < length t → i < length s → set (weave i t s) i (get_or t i d) ≡ weave (suc i) t s
  weave_more i [] s d h k = absurd (not-suc-le-zero h)
  weave_more i (x ∷ t) [] d h k = absurd (not-suc-le-zero k)
  weave_more zero (x ∷ t) (y ∷ s) d h k = refl
  weave_more (suc i) (x ∷ t) (y ∷ s) d h k = ap (λ (l : List A). x ∷ l) (weave_more i t s d (le_of_suc-le-suc h) (le_of_suc-le-suc k))

  weave-later : (i j : ℕ) (t s : List A) (d : A) → i ≤ j → i ≤ length t → j < length s → get_or (weave i t s) j d ≡ get_or s j d
  weave-later zero j t s d h k l = refl
  weave-later (suc i) j [] s d h k l = absurd (not-suc-le-zero k)
  weave-later (suc i) zero (x ∷ t) s d h k l = absurd (not-suc-le-zero h)
  weave-later (suc i) (suc j) (x ∷ t) [] d h k l = absurd (not-suc-le-zero l)
  weave-later (suc i) (suc j) (x ∷ t) (y ∷ s) d h k l = weave-later i j t s d (le_of_suc-le-suc h) (le_of_suc-le-suc k) (le_of_suc-le-suc l)

  weave-set : (m : ℕ) (t s : List A) (b : A) → m ≤ length t → m < length s → set (weave m t s) m b ≡ take m t ++ b ∷ drop (suc m) s
  weave-set m t [] b h k = absurd (not-suc-le-zero k)
  weave-set zero t (y ∷ s) b h k = refl
  weave-set (suc m) [] (y ∷ s) b h k = absurd (not-suc-le-zero h)
  weave-set (suc m) (x ∷ t) (y ∷ s) b h k = ap (λ (l : List A). x ∷ l) (weave-set m t s b (le_of_suc-le-suc h) (le_of_suc-le-suc k))

  -- ---- an entry more
  pub insert_at-length : (i : ℕ) (v : A) (l : List A) → length (insert_at i v l) ≡ suc (length l)
  unfolding insert_at
  insert_at-length zero v l = refl
  insert_at-length (suc i) v [] = refl
  insert_at-length (suc i) v (x ∷ l) = ap suc (insert_at-length i v l)

  insert_at-at : (i : ℕ) (v : A) (l : List A) (d : A) → i ≤ length l → get_or (insert_at i v l) i d ≡ v
  unfolding insert_at
  insert_at-at zero v l d h = refl
  insert_at-at (suc i) v [] d h = absurd (not-suc-le-zero h)
  insert_at-at (suc i) v (x ∷ l) d h = insert_at-at i v l d (le_of_suc-le-suc h)

  insert_at-after : (i j : ℕ) (v : A) (l : List A) (d : A) → i ≤ j → i ≤ length l → get_or (insert_at i v l) (suc j) d ≡ get_or l j d
  unfolding insert_at
  insert_at-after zero j v l d h k = refl
  insert_at-after (suc i) j v [] d h k = absurd (not-suc-le-zero k)
  insert_at-after (suc i) zero v (x ∷ l) d h k = absurd (not-suc-le-zero h)
  insert_at-after (suc i) (suc j) v (x ∷ l) d h k = insert_at-after i j v l d (le_of_suc-le-suc h) (le_of_suc-le-suc k)

  insert_at-start : (i : ℕ) (v : A) (l : List A) → i ≤ length l → l ≡ weave i (insert_at i v l) l
  unfolding insert_at
  insert_at-start zero v l h = refl
  insert_at-start (suc i) v [] h = absurd (not-suc-le-zero h)
  insert_at-start (suc i) v (x ∷ l) h = ap (λ (r : List A). x ∷ r) (insert_at-start i v l (le_of_suc-le-suc h))

  insert_at-take : (i n : ℕ) (v : A) (l : List A) → i ≤ n → n ≤ length l → take (suc n) (insert_at i v l) ≡ insert_at i v (take n l)
  unfolding insert_at
  insert_at-take zero n v l h k = refl
  insert_at-take (suc i) zero v l h k = absurd (not-suc-le-zero h)
  insert_at-take (suc i) (suc n) v [] h k = absurd (not-suc-le-zero k)
  insert_at-take (suc i) (suc n) v (x ∷ l) h k = ap (λ (r : List A). x ∷ r) (insert_at-take i n v l (le_of_suc-le-suc h) (le_of_suc-le-suc k))

  -- ---- an entry less
  pub remove_at-length : (i : ℕ) (l : List A) → i < length l → suc (length (remove_at i l)) ≡ length l
  unfolding remove_at
  remove_at-length i [] h = absurd (not-suc-le-zero h)
  remove_at-length zero (x ∷ l) h = refl
  remove_at-length (suc i) (x ∷ l) h = ap suc (remove_at-length i l (le_of_suc-le-suc h))

  remove_at-start : (i : ℕ) (l : List A) → i < length l → l ≡ weave i (remove_at i l) l
  unfolding remove_at
  remove_at-start i [] h = absurd (not-suc-le-zero h)
  remove_at-start zero (x ∷ l) h = refl
  remove_at-start (suc i) (x ∷ l) h = ap (λ (r : List A). x ∷ r) (remove_at-start i l (le_of_suc-le-suc h))

  remove_at-after : (i j : ℕ) (l : List A) (d : A) → i ≤ j → i < length l → get_or (remove_at i l) j d ≡ get_or l (suc j) d
  unfolding remove_at
  remove_at-after i j [] d h k = absurd (not-suc-le-zero k)
  remove_at-after zero j (x ∷ l) d h k = refl
  remove_at-after (suc i) zero (x ∷ l) d h k = absurd (not-suc-le-zero h)
  remove_at-after (suc i) (suc j) (x ∷ l) d h k = remove_at-after i j l d (le_of_suc-le-suc h) (le_of_suc-le-suc k)

  remove_at-take : (i m : ℕ) (l : List A) → i ≤ m → i < length l → take m (remove_at i l) ≡ remove_at i (take (suc m) l)
  unfolding remove_at
  remove_at-take i m [] h k = absurd (not-suc-le-zero k)
  remove_at-take zero m (x ∷ l) h k = refl
  remove_at-take (suc i) zero (x ∷ l) h k = absurd (not-suc-le-zero h)
  remove_at-take (suc i) (suc m) (x ∷ l) h k = ap (λ (r : List A). x ∷ r) (remove_at-take i m l (le_of_suc-le-suc h) (le_of_suc-le-suc k))

-- ---- a loop that puts v in at place p of the n live ones of the row l₀, carrying what it lifts: it stands at place i, and has stored m times
pub record Inserting {A : Type 0} (d : A) (p : ℕ) (v : A) (n : ℕ) (l₀ : List A) (i m : ℕ) (l : List A) (carry : A) : Type 0 where
  pub place : p ≤ n
  pub room : n < length l₀
  pub from : p ≤ i
  pub to : i ≤ n + 1
  pub counted : p + m ≡ i
  pub slots : l ≡ weave i (insert_at p v l₀) l₀
  pub held : carry ≡ get_or (insert_at p v l₀) i d

module _ {A : Type 0} {d : A} {p : ℕ} {v : A} {n : ℕ} {l₀ : List A} where
  pub insert_begin : p ≤ n → n < length l₀ → Inserting d p v n l₀ p 0 l₀ v
  insert_begin h k = record {
    place = h;
    room = k;
    from = omega arith;
    to = omega arith;
    counted = omega arith;
    slots = insert_at-start p v l₀ (omega arith);
    held = sym (insert_at-at p v l₀ d (omega arith));
  }

  pub insert_turn : {i m : ℕ} {l : List A} {carry : A} (e : A) → i < n + 1 → Inserting d p v n l₀ i m l carry → Inserting d p v n l₀ (i + 1) (m + 1) (set l i carry) (get_or l i e)
  insert_turn {i} e h I =
      let k : i < length l₀ = omega arith in
      let m : i < length (insert_at p v l₀) = rw insert_at-length (omega arith) in
      record {
        place = I.place;
        room = I.room;
        from = omega arith;
        to = omega arith;
        counted = omega (arith, I.counted);
        slots = rw (I.slots, I.held, add-one) (weave_more i (insert_at p v l₀) l₀ d m k);
        held = rw (I.slots, add-one)
            (weave-later i i (insert_at p v l₀) l₀ e (omega arith) (omega arith) k ∙ get_or_default l₀ i e d k ∙ sym (insert_at-after p i v l₀ d I.from (omega arith)));
      }

  pub insert_done : {i m : ℕ} {l : List A} {carry : A} → n + 1 ≤ i → Inserting d p v n l₀ i m l carry → l ≡ insert_at p v (take n l₀) ++ drop (n + 1) l₀
  insert_done {i} h I =
      let e : i ≡ n + 1 = omega arith in
      I.slots ∙ rw (e, add-one, insert_at-take p n v l₀ I.place (omega arith))

-- ---- a loop that takes the entry at place p out: at place i, of the n live ones of the row l₀, after m stores
pub record Removing {A : Type 0} (d : A) (p n : ℕ) (l₀ : List A) (i m : ℕ) (l : List A) : Type 0 where
  pub place : p < n
  pub room : n ≤ length l₀
  pub from : p ≤ i
  pub to : i + 1 ≤ n
  pub counted : p + m ≡ i
  pub slots : l ≡ weave i (remove_at p l₀) l₀

module _ {A : Type 0} {d : A} {p n : ℕ} {l₀ : List A} where
  pub remove_begin : p < n → n ≤ length l₀ → Removing d p n l₀ p 0 l₀
  remove_begin h k = record { place = h; room = k; from = omega arith; to = omega arith; counted = omega arith; slots = remove_at-start p l₀ (omega arith) }

  pub remove_turn : {i m : ℕ} {l : List A} (e : A) → i < n - 1 → Removing d p n l₀ i m l → Removing d p n l₀ (i + 1) (m + 1) (set l i (get_or l (i + 1) e))
  remove_turn {i} e h R =
      let w = remove_at-length p l₀ (omega arith) in
      record {
        place = R.place;
        room = R.room;
        from = omega arith;
        to = omega arith;
        counted = omega (arith, R.counted);
        slots = rw (
          R.slots,
          weave-later i (i + 1) (remove_at p l₀) l₀ e (omega arith) (omega arith) (omega arith),
          get_or_default l₀ (i + 1) e d (omega arith),
          add-one,
          ← (remove_at-after p i l₀ d R.from (omega arith)),
        )
            (weave_more i (remove_at p l₀) l₀ d (omega arith) (omega arith));
      }

  pub remove_done : {i m : ℕ} {l : List A} → n - 1 ≤ i → Removing d p n l₀ i m l → set l (n - 1) d ≡ remove_at p (take n l₀) ++ d ∷ drop n l₀
  remove_done {i} h R =
      let m = n - 1 in
      let w = remove_at-length p l₀ (omega arith) in
      let q : i ≡ m = omega arith in
      let e : n ≡ suc m = omega arith in
      let t = remove_at-take p m l₀ (omega arith) (omega arith) in
      rw (R.slots, q) (weave-set m (remove_at p l₀) l₀ d (omega arith) (omega arith) ∙ rw t (rw (← e)))

-- ---- a loop that blanks the first n slots of the row l₀: at place i
pub record Emptying {A : Type 0} (d : A) (n : ℕ) (l₀ : List A) (i : ℕ) (l : List A) : Type 0 where
  pub room : n ≤ length l₀
  pub to : i ≤ n
  pub slots : l ≡ replicate i d ++ drop i l₀

module _ {A : Type 0} where
  blank_more : (i : ℕ) (d : A) (l : List A) → i < length l → set (replicate i d ++ drop i l) i d ≡ replicate (suc i) d ++ drop (suc i) l
  blank_more i d [] h = absurd (not-suc-le-zero h)
  blank_more zero d (x ∷ l) h = refl
  blank_more (suc i) d (x ∷ l) h = ap (λ (r : List A). d ∷ r) (blank_more i d l (le_of_suc-le-suc h))

module _ {A : Type 0} {d : A} {n : ℕ} {l₀ : List A} where
  pub empty_begin : n ≤ length l₀ → Emptying d n l₀ 0 l₀
  empty_begin h = record { room = h; to = omega arith; slots = refl }

  pub empty_turn : {i : ℕ} {l : List A} → i < n → Emptying d n l₀ i l → Emptying d n l₀ (i + 1) (set l i d)
  empty_turn {i} h E = record { room = E.room; to = omega arith; slots = rw (E.slots, add-one) (blank_more i d l₀ (omega arith)) }

  pub empty_done : {i : ℕ} {l : List A} → n ≤ i → Emptying d n l₀ i l → l ≡ replicate n d ++ drop n l₀
  empty_done {i} h E = let e : i ≡ n = omega arith in E.slots ∙ rw e

pub at_place : {A : Type 0} (n : ℕ) (s : List A) (i : ℕ) (d : A) → i < n → n ≤ length s → drop i (take n s) ≡ get_or s i d ∷ drop (suc i) (take n s)
at_place n s i d h k = drop-cons (take n s) i d (rw length-take-le (omega arith)) ∙ rw get_or-take
