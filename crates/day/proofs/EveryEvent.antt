-- Every event of a replay is printed: no call of it raises more than its log holds. Assumes nothing.
use Prim.Native.Nat.{ℕ, zero, suc, ◌*◌, ◌≤◌}
use mathlib.Core.Bool.{Bool, true, false}
use mathlib.Core.List.{List, [], ◌∷◌, ◌++◌, append-nil, append_assoc}
use mathlib.Core.Path.{◌≡◌, refl, sym, ◌∙◌}
use native.Mathlib.Omega.{arith}
use lib.ListN.{length, take, replicate}
use Rattle.numbers.specs.Choice.{pick}
use Rattle.lists.proofs.Cases.{pick_case}
use Rattle.book.specs.declared.config.Config.{Config}
use Rattle.state.specs.declared.KernelEvent.{KernelEvent}
use Rattle.state.specs.declared.KernelState.{KernelState}
use Rattle.rules.specs.Batch.{state_after}
use Rattle.rules.specs.Calls.{Answer, advance}
use Rattle.rules.specs.Conservation.{advances, passes}
use Rattle.runtext.specs.Read.{Read, read_text}
use Rattle.runtext.specs.Uncut.{Uncut}
use Rattle.runtext.proofs.Uncut.{text_uncut}
use Rattle.day.specs.EveryEvent.{lines_of, raised_events, EveryEvent}
use Rattle.day.specs.Replay.{has_more, passed_on, last_of, turns_from, unless_faulty, replayed}
use Rattle.day.proofs.Batches.{sum_of, shown, lines_append, whole_lines, one-turn}

module _ (c : Config) (rows : List ℕ) where
  -- what a run prints: a line for each of its events, and the last line
  abbrev Prints : ℕ → ℕ → KernelState → Type 0
  Prints n sum s = (end : KernelState) × (filled : ℕ) × (turns_from n c rows s sum ≡ lines_of (raised_events n c rows s) ++ last_of end filled)

  -- behind a call, passed or not, no call raises more either
  uncut_on : (s : KernelState) → Uncut s → Uncut (passed_on (advance c rows s).state)
  unfolding state_after passed_on
  uncut_on s h = pick_case Uncut _ _ _ (λ _ calls. h (advances c rows [] ∷ calls)) (λ _ calls. h (advances c rows [] ∷ passes ∷ calls))

  -- a turn that raised es and left s, from where n turns go on if b says so
  turn-prints : (es : List KernelEvent) (n sum : ℕ) (s : KernelState) → Prints n sum s → (b : Bool)
      → (end : KernelState) × (filled : ℕ) × (lines_of es ++ pick b (turns_from n c rows s sum) (last_of s sum) ≡ lines_of (es ++ pick b (raised_events n c rows s) []) ++ last_of end filled)
  unfolding pick
  turn-prints es n sum s r true = (r.0, r.1, rw (r.2, lines_append es (raised_events n c rows s)) (sym (append_assoc (lines_of es) (lines_of (raised_events n c rows s)) _)))
  turn-prints es n sum s r false = (s, sum, rw (append-nil es))

  run-prints : (n sum : ℕ) (s : KernelState) → Uncut s → Prints n sum s
  unfolding turns_from raised_events lines_of state_after
  run-prints zero sum s h = (s, sum, refl)
  run-prints (suc n) sum s h =
      let a : Answer = advance c rows s in
      let m : ℕ = sum_of sum (take (shown a.events) a.events) in
      let few : length a.events ≤ 512 = omega (arith, h [] c rows) in
      let r = turn-prints a.events n m (passed_on a.state) (run-prints n m (passed_on a.state) (uncut_on s h)) (has_more a.state) in
      (r.0, r.1, one-turn c rows n s sum ∙ rw (whole_lines a.events few) r.2)

pub every_event : (turns : ℕ) (text : List ℕ) → EveryEvent turns text
unfolding unless_faulty replayed
every_event turns text good =
    let q : Read = read_text text (replicate 2560 0) in
    let r = run-prints q.script.cfg (take (q.script.rows * 5) q.words) turns 0 q.script.state (text_uncut text (replicate 2560 0)) in
    (r.0, r.1, rw good r.2)
