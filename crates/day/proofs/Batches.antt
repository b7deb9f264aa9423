-- What a batch prints is what its calls print one at a time. Assumes nothing.
use Prim.Native.Nat.{ℕ, zero, suc, ◌+◌, ◌-◌, ◌*◌, ◌/◌, ◌≤◌, min}
use mathlib.Core.Bool.{Bool, true, false, ◌&&◌}
use mathlib.Core.List.{List, [], ◌∷◌, ◌++◌, append-nil, append_assoc}
use mathlib.Core.Path.{◌≡◌, refl, sym, ap, ◌∙◌}
use native.Mathlib.Omega.{arith}
use lib.Dec.{ltb, leb}
use lib.ListN.{length, take, drop, length-append, length-drop}
use lib.Seq.{take_at, drop_at, take-length, take-append-add}
use borrow.Author.Tests.{lt-ltb, le-ltb, ltb-true, ltb-false, leb-true}
use Rattle.numbers.specs.Choice.{pick}
use Rattle.lists.proofs.Cases.{pick_case, different}
use Rattle.state.specs.Numbers.{is_terminal_phase}
use Rattle.book.specs.declared.config.Config.{Config}
use Rattle.state.specs.declared.KernelEvent.{KernelEvent}
use Rattle.state.specs.declared.KernelState.{KernelState}
use Rattle.state.specs.declared.Phase.{Phase}
use Rattle.state.specs.declared.Phase.TheVariants.{BeforeMatch, ObsQueued, AwaitDecision, Terminal}
use Rattle.rules.specs.Log.{event_words, written}
use Rattle.rules.specs.Calls.{Did, refused, stays, halts, ends, Answer, advance, pass, counts_fit, is_paused, refusal_of}
use Rattle.rules.specs.Batch as batch
use Rattle.rules.proofs.Cases.{both}
use Rattle.reports.proofs.Append.{twelve, length-written}
use Rattle.text.specs.Bytes.{bytes}
use Rattle.logline.specs.Record.{event_line}
use Rattle.lines.specs.Print.{printed, records_of, call_text, filled_lots, filled_from, filled_after}
use Rattle.day.specs.EveryEvent.{lines_of}
use Rattle.day.specs.Replay.{empty_log, has_more, passed_on, last_of, turns_from}

-- what does not wait is not passed
pass_waits : (s : KernelState) → is_paused s.control.phase ≡ false → batch.is_stay (pass s).did ≡ false
unfolding pass
pass_waits s h =
    pick_case (λ (a : Answer). batch.is_stay a.did ≡ false) (counts_fit s) _ _
    (λ _. pick_case (λ (a : Answer). batch.is_stay a.did ≡ false) (is_paused s.control.phase) _ _ (λ p. different (cc (sym p ∙ h))) (λ _. refl))
    (λ _. refl)

-- ---- the lines of events and the lots that their reports fill, whatever log they stand in
unfoldable pub sum_of : ℕ → List KernelEvent → ℕ
sum_of sum [] = sum
sum_of sum (e ∷ es) = sum_of (min (sum + filled_lots (event_words e)) 18446744073709551615) es

pub lines_append : (xs ys : List KernelEvent) → lines_of (xs ++ ys) ≡ lines_of xs ++ lines_of ys
unfolding lines_of
lines_append [] ys = refl
lines_append (e ∷ xs) ys = ap (λ (l : List ℕ). event_line (event_words e) ++ l) (lines_append xs ys) ∙ sym (append_assoc (event_line (event_words e)) (lines_of xs) (lines_of ys))

sum_append : (sum : ℕ) (xs ys : List KernelEvent) → sum_of sum (xs ++ ys) ≡ sum_of (sum_of sum xs) ys
unfolding sum_of
sum_append sum [] ys = refl
sum_append sum (e ∷ xs) ys = sum_append (min (sum + filled_lots (event_words e)) 18446744073709551615) xs ys

-- ---- in a log that has room for them
module _ (log : List ℕ) (e : KernelEvent) (es : List KernelEvent) (h : 12 ≤ length log) where
  first-is : written log (e ∷ es) ≡ event_words e ++ written (drop 12 log) es
  unfolding written pick
  first-is = rw (le-ltb (length log) 12 h)

  first-words : take 12 (written log (e ∷ es)) ≡ event_words e
  first-words = rw first-is (take_at (event_words e) (written (drop 12 log) es) 12 (twelve e))

  rest-words : drop 12 (written log (e ∷ es)) ≡ written (drop 12 log) es
  rest-words = rw first-is (drop_at (event_words e) (written (drop 12 log) es) 12 (twelve e))

printed-is : (n : ℕ) (log : List ℕ) (es : List KernelEvent) → n ≤ length es → n * 12 ≤ length log → printed n (written log es) ≡ lines_of (take n es)
unfolding printed lines_of
printed-is zero log es h k = refl
printed-is (suc n) log [] h k = absurd (omega arith)
printed-is (suc n) log (e ∷ es) h k =
    let r : 12 ≤ length log = omega arith in
    rw (first-words log e es r, rest-words log e es r, printed-is n (drop 12 log) es (omega arith) (omega (arith, length-drop 12 log)))

sum_is : (sum n : ℕ) (log : List ℕ) (es : List KernelEvent) → n ≤ length es → n * 12 ≤ length log → filled_from sum n (written log es) ≡ sum_of sum (take n es)
unfolding filled_from sum_of
sum_is sum zero log es h k = refl
sum_is sum (suc n) log [] h k = absurd (omega arith)
sum_is sum (suc n) log (e ∷ es) h k =
    let r : 12 ≤ length log = omega arith in
    rw (first-words log e es r, rest-words log e es r, sum_is (min (sum + filled_lots (event_words e)) 18446744073709551615) n (drop 12 log) es (omega arith) (omega (arith, length-drop 12 log)))

-- ---- "The log is 512 records; a call raising more then adds `cut`", by the events
abbrev pub shown : List KernelEvent → ℕ
shown es = min (length es) 512

pub call_lines : List KernelEvent → List ℕ
call_lines es = lines_of (take (shown es) es) ++ pick (ltb (shown es) (length es)) (bytes "cut\n") []

ltb_add : (k m n : ℕ) → ltb (k + m) (k + n) ≡ ltb m n
ltb_add k m n = go (ltb m n) refl
  where
    go : (b : Bool) → ltb m n ≡ b → ltb (k + m) (k + n) ≡ b
    go true h = lt-ltb (k + m) (k + n) (omega (arith, ltb-true m n h))
    go false h = le-ltb (k + m) (k + n) (omega (arith, ltb-false m n h))

-- the events bs of the calls before, then those of the last call
module _ (log : List ℕ) (bs es : List KernelEvent) (room : length bs + 512 ≤ length log / 12) where
  both-length : length (bs ++ es) ≡ length bs + length es
  both-length = length-append bs es

  records_is : records_of (written log (bs ++ es)) (length (bs ++ es)) (length es) ≡ length bs + shown es
  records_is = rw (length-written log (bs ++ es), both-length) (omega arith)

  within : length bs + shown es ≤ length (bs ++ es)
  within = omega (arith, both-length)

  fits : (length bs + shown es) * 12 ≤ length log
  fits = omega arith

  lines_are : call_text (written log (bs ++ es)) (length (bs ++ es)) (length es) ≡ lines_of bs ++ call_lines es
  unfolding call_text call_lines
  lines_are = rw
      (records_is, printed-is (length bs + shown es) log (bs ++ es) within fits, take-append-add bs es (shown es), lines_append bs (take (shown es) es), both-length, ltb_add (length bs) (shown es) (length es))
      (append_assoc (lines_of bs) (lines_of (take (shown es) es)) _)

  sums_are : (sum : ℕ) → filled_after sum (written log (bs ++ es)) (length (bs ++ es)) (length es) ≡ sum_of (sum_of sum bs) (take (shown es) es)
  unfolding filled_after
  sums_are sum = rw
      (records_is, sum_is sum (length bs + shown es) log (bs ++ es) within fits, take-append-add bs es (shown es))
      (sum_append sum bs (take (shown es) es))

-- a call of 512 events or fewer is printed whole
module _ (es : List KernelEvent) (h : length es ≤ 512) where
  all_shown : shown es ≡ length es
  all_shown = omega arith

  pub whole_lines : call_lines es ≡ lines_of es
  unfolding call_lines pick
  whole_lines = rw (all_shown, le-ltb (length es) (length es) (omega arith), take-length es) (append-nil (lines_of es))

  whole_sum : (sum : ℕ) → sum_of sum (take (shown es) es) ≡ sum_of sum es
  whole_sum sum = rw (all_shown, take-length es)

-- ---- a call behind which another follows
stay_zero : (d : Did) → batch.is_stay d ≡ true → refusal_of d ≡ 0
stay_zero (refused n) e = different cc
stay_zero stays e = refl
stay_zero (halts h) e = refl
stay_zero (ends ms) e = refl

module _ (s : KernelState) (h : batch.is_stay (pass s).did ≡ true) where
  not_over : is_terminal_phase s.control.phase ≡ false
  not_over = go s.control.phase (pass_waits s)
    where
      go : (p : Phase) → (is_paused p ≡ false → batch.is_stay (pass s).did ≡ false) → is_terminal_phase p ≡ false
      go BeforeMatch g = refl
      go ObsQueued g = refl
      go AwaitDecision g = refl
      go Terminal g = different (cc (sym h ∙ g refl))

  goes : has_more s ≡ true
  unfolding has_more pick
  goes = rw (not_over, stay_zero (pass s).did h)

  onward : passed_on s ≡ (pass s).state
  unfolding passed_on pick
  onward = rw not_over

-- ---- the turns of a batch
module _ (c : Config) (rows : List ℕ) where
  -- what n turns behind a call print
  abbrev pub after : ℕ → KernelState → ℕ → List ℕ
  after n s sum = pick (has_more s) (turns_from n c rows (passed_on s) sum) (last_of (passed_on s) sum)

  pub one-turn : (n : ℕ) (s : KernelState) (sum : ℕ)
      → turns_from (suc n) c rows s sum ≡ call_lines (advance c rows s).events ++ after n (advance c rows s).state (sum_of sum (take (shown (advance c rows s).events) (advance c rows s).events))
  unfolding turns_from lines_of sum_of
  one-turn n s sum =
      let es : List KernelEvent = (advance c rows s).events in
      let room : 0 + 512 ≤ length empty_log / 12 = omega arith in
      ap (λ (l : List ℕ). l ++ after n (advance c rows s).state (filled_after sum (written empty_log es) (length es) (length es))) (lines_are empty_log [] es room)
      ∙ ap (λ (m : ℕ). call_lines es ++ after n (advance c rows s).state m) (sums_are empty_log [] es room sum)

  module _ (log : List ℕ) (e : length log ≡ 12276) (sum : ℕ) where
    -- the text of a batch, and of n turns behind it
    abbrev pub printed_by : ℕ → batch.BatchResult → List ℕ
    printed_by n r = call_text r.log r.count r.last ++ after n r.state (filled_after sum r.log r.count r.last)

    abbrev Same : List KernelEvent → KernelState → batch.Batch → Type 0
    Same es s b = (turns : ℕ) × ((n : ℕ) → printed_by n (batch.returned_run log b) ≡ lines_of es ++ turns_from (suc (turns + n)) c rows s (sum_of sum es))

    -- the last call of a batch is a turn
    last_turn : (es : List KernelEvent) (s : KernelState) → length es ≤ 511 → Same es s (batch.ending es (advance c rows s))
    last_turn es s h =
        let fs : List KernelEvent = (advance c rows s).events in
        let room : length es + 512 ≤ length log / 12 = omega arith in
        let l : length (es ++ fs) - length es ≡ length fs = omega (arith, length-append es fs) in (
          0,
          λ n.
              let z : 0 + n ≡ n = omega arith in
              rw (l, lines_are log es fs room, sums_are log es fs room sum, z, one-turn n s (sum_of sum es)) (append_assoc (lines_of es) (call_lines fs) _),
        )

    -- one behind which another call follows is a turn before those
    next-turn : (es : List KernelEvent) (s : KernelState) (b : batch.Batch)
        → length (es ++ (advance c rows s).events) ≤ 511 → batch.is_stay (pass (advance c rows s).state).did ≡ true
        → Same (es ++ (advance c rows s).events) (pass (advance c rows s).state).state b → Same es s b
    unfolding pick
    next-turn es s b h g t =
        let fs : List KernelEvent = (advance c rows s).events in
        let few : length fs ≤ 512 = omega (arith, length-append es fs) in (
          suc t.0,
          λ n.
              let z : suc t.0 + n ≡ suc (t.0 + n) = omega arith in
              t.1 n ∙ rw
              (z, one-turn (suc (t.0 + n)) s (sum_of sum es), whole_lines fs few, whole_sum fs few (sum_of sum es), goes (advance c rows s).state g, onward (advance c rows s).state g, lines_append es fs, sum_append sum es fs)
              (append_assoc (lines_of es) (lines_of fs) _),
        )

    batch_turns : (k : ℕ) (es : List KernelEvent) (s : KernelState) → length es ≤ 511 → Same es s (batch.run_from c rows (length log / 12) k es s)
    unfolding batch.run_from batch.goes_on
    batch_turns zero es s h = last_turn es s h
    batch_turns (suc k) es s h =
        let a : Answer = advance c rows s in
        let es1 : List KernelEvent = es ++ a.events in
        let rest : batch.Batch = batch.run_from c rows (length log / 12) k es1 (pass a.state).state in
        pick_case (Same es s) (batch.goes_on (length log / 12) es a) rest (batch.ending es a)
        (λ g.
        let p = both (batch.is_stay a.did && batch.is_stay (pass a.state).did) (leb (length es1 + batch.call_records) (length log / 12)) g in
        let few : length es1 ≤ 511 = omega (arith, leb-true (length es1 + batch.call_records) (length log / 12) p.1) in
        next-turn es s rest few (both (batch.is_stay a.did) _ p.0).1 (batch_turns k es1 (pass a.state).state few))
        (λ _. last_turn es s h)

    -- a whole batch
    pub whole_batch : (k : ℕ) (s : KernelState) → (turns : ℕ) × ((n : ℕ) → printed_by n (batch.returned_run log (batch.run c rows (length log / 12) k s)) ≡ turns_from (suc (turns + n)) c rows s sum)
    unfolding lines_of sum_of
    whole_batch k s = batch_turns k [] s (omega arith)
