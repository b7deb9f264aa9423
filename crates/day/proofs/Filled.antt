-- The last line's `filled` is N2's sum over the events that a run prints. Assumes nothing.
use Prim.Native.Nat.{ℕ, zero, suc, ◌+◌, ◌≤◌, min}
use mathlib.Core.Bool.{Bool, true, false, ◌||◌}
use mathlib.Core.List.{List, [], ◌∷◌, ◌++◌, append_assoc}
use mathlib.Core.Path.{◌≡◌, refl, sym, ap, ◌∙◌}
use native.Mathlib.Omega.{arith}
use native.Mathlib.Nat.{zero-add}
use lib.Dec.{eqb}
use lib.ListN.{take, length-take}
use lib.Seq.{take_all, take-take}
use Rattle.numbers.specs.Choice.{pick}
use Rattle.lists.specs.Lists.{total}
use Rattle.lists.proofs.Sums.{total-append}
use Rattle.book.specs.Numbers.{exec_number}
use Rattle.book.specs.declared.ExecKind.{ExecKind}
use Rattle.book.specs.declared.ExecKind.TheVariants.{Accepted, Rejected, Canceled, CancelRejected, PartialFill, Fill}
use Rattle.book.specs.declared.config.Config.{Config}
use Rattle.state.specs.declared.KernelEvent.{KernelEvent}
use Rattle.state.specs.declared.KernelEvent.TheVariants as event
use Rattle.state.specs.declared.KernelState.{KernelState}
use Rattle.rules.specs.Calls.{Answer, advance}
use Rattle.rules.specs.Log.{event_words}
use Rattle.rules.proofs.Sample as rules
use Rattle.lines.specs.Print.{filled_lots}
use Rattle.day.specs.Replay.{has_more, passed_on, last_of, turns_from}
use Rattle.day.specs.Filled.{trade_lots, reported_lots, printed_events, EndsWith, FilledIsReported}
use Rattle.day.proofs.Batches.{sum_of, shown, call_lines, one-turn}

-- the words of a record that are counted are those of the event that it is
filled-reported : (e : KernelEvent) → filled_lots (event_words e) ≡ reported_lots e
unfolding trade_lots reported_lots event_words filled_lots pick
filled-reported (event.Report r) = go r.kind
  where
    go : (k : ExecKind) → pick (eqb (exec_number k) 4 || eqb (exec_number k) 5) r.last 0 ≡ trade_lots k r.last
    go Accepted = refl
    go Rejected = refl
    go Canceled = refl
    go CancelRejected = refl
    go PartialFill = refl
    go Fill = refl
filled-reported (event.Fill f) = refl
filled-reported (event.Delivered r) = refl
filled-reported (event.Observed row at) = refl
filled-reported (event.RowEnd row ts) = refl
filled-reported (event.EndOfData msgs obs) = refl
filled-reported (event.Halted h) = refl
filled-reported (event.DroppedMsg order cancel) = refl
filled-reported (event.Expired order at) = refl
filled-reported (event.DroppedExpiry order) = refl

-- so is their sum
sum_reported : (sum : ℕ) (es : List KernelEvent) → sum ≤ 18446744073709551615 → sum_of sum es ≡ min (sum + total reported_lots es) 18446744073709551615
unfolding sum_of total
sum_reported sum [] h = omega arith
sum_reported sum (e ∷ es) h =
    let i = sum_reported (min (sum + filled_lots (event_words e)) 18446744073709551615) es (omega arith) in
    omega (arith, filled-reported e)

-- of a call's events the first 512 are shown
shown-first : (es : List KernelEvent) → take (shown es) es ≡ take 512 es
shown-first es = sym (take-take (shown es) 512 es (omega arith)) ∙ take_all (shown es) (take 512 es) (omega (arith, length-take 512 es))

-- ---- the turns of a run
module _ (c : Config) (rows : List ℕ) where
  -- a run behind calls that filled so many
  abbrev Sums : ℕ → ℕ → KernelState → Type 0
  Sums n sum s = (end : KernelState) × EndsWith (turns_from n c rows s sum) (last_of end (min (sum + total reported_lots (printed_events n c rows s)) 18446744073709551615))

  -- a turn that raised es and left s, from where n turns go on if b says so; m is the sum with its reports
  turn-sums : (es : List KernelEvent) (n sum m : ℕ) (s : KernelState) → m ≡ min (sum + total reported_lots (take 512 es)) 18446744073709551615 → Sums n m s → (b : Bool)
      → (end : KernelState) × EndsWith (call_lines es ++ pick b (turns_from n c rows s m) (last_of s m))
      (last_of end (min (sum + total reported_lots (take 512 es ++ pick b (printed_events n c rows s) [])) 18446744073709551615))
  unfolding pick total
  turn-sums es n sum m s e r true =
      let k : min (m + total reported_lots (printed_events n c rows s)) 18446744073709551615 ≡ min (sum + total reported_lots (take 512 es ++ printed_events n c rows s)) 18446744073709551615
      = omega (arith, total-append reported_lots (take 512 es) (printed_events n c rows s)) in
      (r.0, (call_lines es ++ r.1.0, rw (← k, r.1.1) (sym (append_assoc (call_lines es) r.1.0 _))))
  turn-sums es n sum m s e r false =
      let k : m ≡ min (sum + total reported_lots (take 512 es ++ [])) 18446744073709551615 = omega (arith, total-append reported_lots (take 512 es) []) in
      (s, (call_lines es, ap (λ (j : ℕ). call_lines es ++ last_of s j) k))

  run-sums : (n sum : ℕ) (s : KernelState) → sum ≤ 18446744073709551615 → Sums n sum s
  unfolding turns_from printed_events total
  run-sums zero sum s h = let k : sum ≡ min (sum + 0) 18446744073709551615 = omega arith in (s, ([], ap (last_of s) k))
  run-sums (suc n) sum s h =
      let a : Answer = advance c rows s in
      let m : ℕ = sum_of sum (take (shown a.events) a.events) in
      let e : m ≡ min (sum + total reported_lots (take 512 a.events)) 18446744073709551615 = rw (shown-first a.events) (sum_reported sum (take 512 a.events) h) in
      let r = turn-sums a.events n sum m (passed_on a.state) e (run-sums n m (passed_on a.state) (omega arith)) (has_more a.state) in
      (r.0, (r.1.0, one-turn c rows n s sum ∙ r.1.1))

-- every run
pub filled_is_reported : (n : ℕ) (c : Config) (rows : List ℕ) (s : KernelState) → FilledIsReported n c rows s
filled_is_reported n c rows s = rw zero-add at (run-sums c rows n 0 s (omega arith))

-- document 01's sample, whose last line says 5
sample : (n : ℕ) → total reported_lots (printed_events (suc (suc n)) rules.config rules.rows rules.start) ≡ 5
sample n = unfold rules.third has_more passed_on printed_events trade_lots reported_lots total in refl
