-- The laws of the log: an event's words, the part that is lent to its writer, and the events appended one by one. Assumes nothing.
use mathlib.Core.Path.{◌≡◌, refl, sym, ◌∙◌}
use mathlib.Core.List.{List, [], ◌∷◌, ◌++◌, append-nil, append_assoc}
use Prim.Native.Nat.{ℕ, suc, ◌+◌, ◌-◌, ◌*◌, ◌/◌, ◌<◌, ◌≤◌, min}
use native.Mathlib.Nat.{add-zero, zero-add}
use native.Mathlib.Omega.{arith}
use lib.ListN.{length, take, drop, length-drop, length-take, length-append, drop_of_length-le, take-append-drop}
use lib.Seq.{take_all, take_at, drop_at}
use borrow.Author.Tests.{lt-ltb, le-ltb, ltb-true, ltb-false}
use lib.Dec.{ltb}
use mir.Val.{Fits}
use mir.Syntax.{w64}
use mathlib.Core.Bool.{Bool, true, false}
use Rattle.numbers.specs.Choice.{pick}
use Rattle.lists.proofs.Cases.{pick_case}
use Rattle.state.specs.declared.KernelEvent.{KernelEvent}
use Rattle.state.specs.declared.KernelEvent.TheVariants.{Report, Fill, Delivered, Observed, RowEnd, EndOfData, Halted, DroppedMsg, Expired, DroppedExpiry}
use Rattle.rules.specs.Log.{event_words, written}
use Rattle.reports.specs.Log.{top, Logged, append_event, append_events}

-- each event takes 12 words
pub twelve : (e : KernelEvent) → length (event_words e) ≡ 12
unfolding event_words
twelve (Report r) = refl
twelve (Fill f) = refl
twelve (Delivered r) = refl
twelve (Observed row at) = refl
twelve (RowEnd row ts) = refl
twelve (EndOfData m o) = refl
twelve (Halted h) = refl
twelve (DroppedMsg o c) = refl
twelve (Expired o at) = refl
twelve (DroppedExpiry o) = refl

-- one event, where it fits whole and where it does not
pub fits_whole : (l : List ℕ) (e : KernelEvent) → 12 ≤ length l → written l (e ∷ []) ≡ event_words e ++ drop 12 l
unfolding written pick
fits_whole l e h = rw (le-ltb (length l) 12 h)

pub no_room : (l : List ℕ) (e : KernelEvent) → length l < 12 → written l (e ∷ []) ≡ l
unfolding written pick
no_room l e h = rw (lt-ltb (length l) 12 h)

-- what a writer that was lent all of xs from a on leaves, said of the whole
pub lent : (xs ys : List ℕ) (a : ℕ) (e : KernelEvent) → a ≤ length xs → ys ≡ written (take (length xs - a) (drop a xs)) (e ∷ [])
    → take a xs ++ (ys ++ drop (length xs - a) (drop a xs)) ≡ take a xs ++ written (drop a xs) (e ∷ [])
lent xs ys a e h hy =
    let l : length (drop a xs) ≤ length xs - a = simp length-drop (omega arith) in
    let p : take (length xs - a) (drop a xs) ≡ drop a xs = take_all (length xs - a) (drop a xs) l in
    let q : drop (length xs - a) (drop a xs) ≡ [] = drop_of_length-le (drop a xs) l in
    rw (hy, q, p, append-nil)

-- the log of these words, of the slice a
abbrev logged : ℕ → List ℕ → ℕ → Logged
logged a w n = record { words = w; count = n; lender = a }

-- ---- emit: an event that is written; one past the room; one past the largest count
pub append-written : (a : ℕ) (xs ys : List ℕ) (n : ℕ) (e : KernelEvent) → n < top → ys ≡ take (n * 12) xs ++ written (drop (n * 12) xs) (e ∷ []) → logged a ys (n + 1) ≡ append_event (logged a xs n) e
unfolding append_event pick
append-written a xs ys n e h k =
    let c : min (n + 1) top ≡ n + 1 = omega arith in
    rw (k, lt-ltb n top h, c)

pub append-past : (a : ℕ) (xs : List ℕ) (n : ℕ) (e : KernelEvent) → n < top → length xs / 12 ≤ n → logged a xs (n + 1) ≡ append_event (logged a xs n) e
append-past a xs n e h k =
    let l : length (drop (n * 12) xs) < 12 = simp length-drop (omega arith) in
    append-written a xs xs n e h (rw (no_room (drop (n * 12) xs) e l) (sym (take-append-drop (n * 12) xs)))

pub append-full : (a : ℕ) (xs : List ℕ) (n : ℕ) (e : KernelEvent) → n ≡ top → logged a xs n ≡ append_event (logged a xs n) e
unfolding append_event pick
append-full a xs n e h =
    rw h

-- ---- appended one by one
pub appended_append : (l : Logged) (es fs : List KernelEvent) → append_events (append_events l es) fs ≡ append_events l (es ++ fs)
unfolding append_events
appended_append l [] fs = refl
appended_append l (e ∷ es) fs = appended_append (append_event l e) es fs

-- a log keeps its length
pub length-written : (log : List ℕ) (es : List KernelEvent) → length (written log es) ≡ length log
unfolding written
length-written log [] = refl
length-written log (e ∷ es) = pick_case (λ (l : List ℕ). length l ≡ length log) (ltb (length log) 12) _ _
    (λ _. refl)
    (λ h. length-append (event_words e) (written (drop 12 log) es) ∙ omega (arith, twelve e, length-written (drop 12 log) es, length-drop 12 log, ltb-false (length log) 12 h))

-- ---- from the log's start, as far as the count goes, the events appended are those written
written-nowhere : (es : List KernelEvent) → written [] es ≡ []
unfolding written pick
written-nowhere [] = refl
written-nowhere (e ∷ es) = refl

front : (a b c : List ℕ) (m : ℕ) → length a + length b ≡ m → take m (a ++ (b ++ c)) ≡ a ++ b
front a b c m h = rw (← append_assoc a b c) (take_at (a ++ b) c m (length-append a b ∙ h))

back : (a b c : List ℕ) (m : ℕ) → length a + length b ≡ m → drop m (a ++ (b ++ c)) ≡ c
back a b c m h = rw (← append_assoc a b c) (drop_at (a ++ b) c m (length-append a b ∙ h))

-- one event, then the others behind it
one_more : (n : ℕ) (w : List ℕ) (e : KernelEvent) (es : List KernelEvent) (b : Bool) → ltb (length (drop (n * 12) w)) 12 ≡ b
    → let v : List ℕ = take (n * 12) w ++ written (drop (n * 12) w) (e ∷ []) in
    take ((n + 1) * 12) v ++ written (drop ((n + 1) * 12) v) es ≡ take (n * 12) w ++ written (drop (n * 12) w) (e ∷ es)
unfolding written pick
one_more n w e es true h =
    let l : length (drop (n * 12) w) < 12 = ltb-true _ _ h in
    let q : length w ≤ (n + 1) * 12 = omega (arith, length-drop (n * 12) w) in
    rw (h, take-append-drop (n * 12) w, drop_of_length-le w {i = (n + 1) * 12} q, written-nowhere es, take_all ((n + 1) * 12) w q) (append-nil w)
one_more n w e es false h =
    let l : 12 ≤ length (drop (n * 12) w) = ltb-false _ _ h in
    let q : length (take (n * 12) w) + length (event_words e) ≡ (n + 1) * 12 = omega (arith, length-drop (n * 12) w, length-take (n * 12) w, twelve e) in
    rw (h, front (take (n * 12) w) (event_words e) (drop 12 (drop (n * 12) w)) ((n + 1) * 12) q, back (take (n * 12) w) (event_words e) (drop 12 (drop (n * 12) w)) ((n + 1) * 12) q)
    (append_assoc (take (n * 12) w) (event_words e) (written (drop 12 (drop (n * 12) w)) es))

appended_from : (a : ℕ) (n : ℕ) (w : List ℕ) (es : List KernelEvent) → n + length es ≤ top
    → append_events (logged a w n) es ≡ logged a (take (n * 12) w ++ written (drop (n * 12) w) es) (n + length es)
unfolding append_events
appended_from a n w [] h = unfold written in rw (take-append-drop (n * 12) w, add-zero)
appended_from a n w (e ∷ es) h =
    let v : List ℕ = take (n * 12) w ++ written (drop (n * 12) w) (e ∷ []) in
    let c : n + 1 + length es ≡ n + suc (length es) = omega arith in
    rw (← (append-written a w v n e (omega arith) refl)) (appended_from a (n + 1) v es (omega arith) ∙ rw (one_more n w e es (ltb (length (drop (n * 12) w)) 12) refl, c))

-- a whole call
pub appended_all : (a : ℕ) (w : List ℕ) (es : List KernelEvent) → length es ≤ top → append_events (logged a w 0) es ≡ logged a (written w es) (length es)
appended_all a w es h = appended_from a 0 w es (omega arith) ∙ rw zero-add

-- a number of 64 bits that is not the largest is below it
pub below_top : (n : ℕ) → (n ≡ top → ⊥) → Fits w64 n → n < top
below_top n h f = omega arith
