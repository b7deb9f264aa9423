-- Text written piece by piece is the text written whole; the digits of a number. Assumes nothing.
use Prim.Native.Nat.{ℕ, zero, suc, ◌+◌, ◌-◌, ◌*◌, ◌/◌, ◌≤◌, ◌<◌, min}
use mathlib.Core.Path.{◌≡◌, refl, sym, ap, ◌∙◌}
use mathlib.Core.Bool.{Bool, true, false}
use mathlib.Core.List.{List, [], ◌∷◌, ◌++◌, append_assoc, append-nil}
use native.Mathlib.Nat.{not-suc-le-zero, le_of_suc-le-suc}
use native.Mathlib.Numerals.{add-one}
use native.Mathlib.Omega.{arith}
use lib.Dec.{ltb}
use lib.ListN.{length, replicate, take, drop, set, drop_of_length-le, length-append, length-drop, length-set, length-take}
use Rattle.std.proofs.lemmas.List.{take-append-drop}
use lib.Seq.{take_all, drop-drop, length-take-le, sets, sets-eq}
use borrow.Rule.Slice.PartMut.{put_mid}
use borrow.Author.Tests.{lt-ltb, le-ltb, ltb-true, ltb-false}
use Rattle.numbers.specs.Choice.{pick}
use Rattle.write.specs.declared.Writer.{Writer}
use Rattle.write.specs.Write.{Text, text_at, put, texted, text_of, with_text, written, digit, digits, decimal}

-- ---- a byte
pub put_in : (bs : List ℕ) (n b : ℕ) → n < length bs → text_at (set bs n b) (n + 1) ≡ texted (text_at bs n) (b ∷ [])
unfolding texted put pick
put_in bs n b h = rw (lt-ltb n (length bs) h)

pub put-past : (bs : List ℕ) (n b : ℕ) → length bs ≤ n → text_at bs n ≡ texted (text_at bs n) (b ∷ [])
unfolding texted put pick
put-past bs n b h = rw (le-ltb n (length bs) h)

-- ---- pieces
pub texted-append : (t : Text) (a b : List ℕ) → texted t (a ++ b) ≡ texted (texted t a) b
unfolding texted
texted-append t [] b = refl
texted-append t (x ∷ a) b = texted-append (put t x) a b

pub written_none : (w : Writer) → written w [] ≡ w
unfolding texted
written_none w = refl

pub written_append : (w : Writer) (a b : List ℕ) → written (written w a) b ≡ written w (a ++ b)
written_append w a b = ap (with_text w) (sym (texted-append (text_of w) a b))

all_written : (t : Text) → texted t [] ≡ t
unfolding texted
all_written t = refl

-- ---- a piece of which n bytes have room, from place k on
pub past : (bs : List ℕ) (k : ℕ) (s : List ℕ) → length bs ≤ k → texted (text_at bs k) s ≡ text_at bs k
unfolding texted put pick
past bs k [] h = refl
past bs k (b ∷ s) h = rw (le-ltb k (length bs) h) (past bs k s h)

fits : (bs : List ℕ) (k : ℕ) (s : List ℕ) → k + length s ≤ length bs → texted (text_at bs k) s ≡ text_at (sets bs k s) (k + length s)
unfolding texted put pick
fits bs k [] h = ap (text_at bs) (omega arith)
fits bs k (b ∷ s) h =
    let m : suc k + length s ≤ length (set bs k b) = rw length-set (omega arith) in
    rw (lt-ltb k (length bs) (omega arith), add-one) (fits (set bs k b) (suc k) s m ∙ ap (text_at (sets bs k (b ∷ s))) (omega arith))

-- the bytes before place k stand, then comes the text, then the bytes behind it
pub texted-whole : (s bs : List ℕ) (k : ℕ) → k + length s ≤ length bs → texted (text_at bs k) s ≡ text_at (take k bs ++ s ++ drop (k + length s) bs) (k + length s)
texted-whole s bs k h = fits bs k s h ∙ ap (λ (m : List ℕ). text_at m (k + length s)) (sets-eq s bs k h)

module _ (bs : List ℕ) (k n : ℕ) (s part : List ℕ) (h : k ≤ length bs) (e : n ≡ min (length s) (length bs - k)) (f : part ≡ take n s) where
  abbrev room : List ℕ
  room = take k bs ++ part ++ drop (k + n) bs

  size : length part ≡ n
  size = rw f (length-take-le n s (omega arith))

  front : texted (text_at bs k) part ≡ text_at room (k + n)
  front =
      let m : k + length part ≤ length bs = omega (arith, size) in
      rw size at (texted-whole part bs k m)

  rest : texted (text_at room (k + n)) (drop n s) ≡ text_at room (k + n)
  rest = cases (ltb n (length s)) refl
    where
      cases : (t : Bool) → ltb n (length s) ≡ t → texted (text_at room (k + n)) (drop n s) ≡ text_at room (k + n)
      cases true g =
          let m : n < length s = ltb-true n (length s) g in
          past room (k + n) (drop n s) (simp (length-append, length-drop, length-take) (omega (arith, size)))
      cases false g = rw (drop_of_length-le s (ltb-false n (length s) g)) (all_written (text_at room (k + n)))

  placed : put_mid k (k + n - k) bs part ≡ room
  placed =
      let z : k + n - k ≡ n = omega arith in
      rw (z, drop-drop, append_assoc)

  pub put_room : text_at (put_mid k (k + n - k) bs part) (k + n) ≡ texted (text_at bs k) s
  put_room = rw placed (sym (ap (texted (text_at bs k)) (sym (take-append-drop n s)) ∙ texted-append (text_at bs k) (take n s) (drop n s) ∙ rw (← f, front) rest))

-- ---- the digits of a number, at any fuel above it
digits-fuel : (k m n : ℕ) → n < k → n < m → digits k n ≡ digits m n
unfolding digits pick
digits-fuel zero m n h g = absurd (not-suc-le-zero h)
digits-fuel (suc k) zero n h g = absurd (not-suc-le-zero g)
digits-fuel (suc k) (suc m) n h g = cases (ltb n 10) refl (digits-fuel k m (n / 10))
  where
    cases : (t : Bool) → ltb n 10 ≡ t → (n / 10 < k → n / 10 < m → digits k (n / 10) ≡ digits m (n / 10)) → digits (suc k) n ≡ digits (suc m) n
    cases true e i = rw e
    cases false e i =
        let z : 10 ≤ n = ltb-false n 10 e in
        rw (e, i (omega arith) (omega arith))

pub decimal-one : (n : ℕ) → n < 10 → digit n ∷ [] ≡ decimal n
unfolding decimal digits pick
decimal-one n h = rw (lt-ltb n 10 h)

pub decimal-more : (n : ℕ) → 10 ≤ n → decimal n ≡ decimal (n / 10) ++ (digit n ∷ [])
unfolding decimal digits pick
decimal-more n h = rw (le-ltb n 10 h) (ap (λ (l : List ℕ). l ++ (digit n ∷ [])) (digits-fuel n (suc (n / 10)) (n / 10) (omega arith) (omega arith)))

-- ---- the digits of a number, put into a row from its end on
-- 10 to the power k
unfoldable pub tens : ℕ → ℕ
tens zero = 1
tens (suc k) = 10 * tens k

pub word-tens : (n : ℕ) → n < 18446744073709551616 → n < tens 20
unfolding tens
word-tens n h = omega arith

-- the place i is written: what stands behind it follows
set-drop : (row : List ℕ) (i v : ℕ) → i < length row → drop i (set row i v) ≡ v ∷ drop (suc i) row
set-drop [] i v h = absurd (not-suc-le-zero h)
set-drop (x ∷ row) zero v h = refl
set-drop (x ∷ row) (suc i) v h = set-drop row i v (le_of_suc-le-suc h)

-- of n, the digits of `left` are still to be put, up to place i
pub record Putting (n left i : ℕ) (row : List ℕ) : Type 0 where
  pub within : i ≤ 19
  pub size : length row ≡ 20
  pub small : left < tens (suc i)
  pub digits : decimal n ≡ decimal left ++ drop (suc i) row

pub put_begin : (n : ℕ) → n < 18446744073709551616 → Putting n n 19 (replicate 20 0)
put_begin n h = record { within = omega arith; size = refl; small = word-tens n h; digits = rw append-nil }

module _ (n left : ℕ) (row : List ℕ) where
  -- one digit is put, and more are left
  pub put_turn : (i : ℕ) → Putting n left i row → 10 ≤ left → (0 < i) × Putting n (left / 10) (i - 1) (set row i (digit left))
  unfolding tens
  put_turn zero p h = absurd (omega (arith, p.small))
  put_turn (suc i) p h =
      let m : suc i < length row = omega (arith, p.within, p.size) in
      let z : suc i - 1 ≡ i = omega arith in (
        omega arith,
        rw z (record {
          within = omega (arith, p.within);
          size = rw length-set p.size;
          small = omega (arith, p.small);
          digits = rw (set-drop row (suc i) (digit left) m) (p.digits ∙ rw (decimal-more left h, append_assoc));
        }),
      )

  -- the last digit is put
  pub put_last : (i : ℕ) → Putting n left i row → left < 10 → take (20 - i) (drop i (set row i (48 + left))) ≡ decimal n
  put_last i p h =
      let m : i < length row = omega (arith, p.within, p.size) in
      let z : 48 + left ≡ digit left = omega arith in
      let all : take (20 - i) (drop i (set row i (digit left))) ≡ drop i (set row i (digit left)) = take_all (20 - i) _ (rw (length-drop, length-set, p.size) (omega arith)) in
      rw (z, all, set-drop row i (digit left) m, p.digits, ← decimal-one left h)
