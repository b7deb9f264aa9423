-- A call reads no row but `cur_row` and 17 less its observations from the cursor on: lists that agree there give the same answer. Assumes nothing.
use Rattle.std.specs.Prelude.{Option, Some, None}
use Prim.Native.Nat.{ℕ, zero, suc, ◌+◌, ◌/◌, ◌≤◌, ◌<◌}
use mathlib.Core.Bool.{true, false}
use mathlib.Core.List.{List}
use mathlib.Core.Path.{◌≡◌, refl, sym, ap, ◌∙◌}
use native.Mathlib.Omega.{arith}
use lib.Dec.{ltb}
use lib.ListN.{length}
use Rattle.numbers.specs.Choice.{on_some}
use Rattle.lists.proofs.Cases.{pick_case}
use Rattle.book.specs.declared.config.Config.{Config}
use Rattle.book.specs.declared.config.KernelTick.{KernelTick}
use Rattle.state.specs.declared.Control.{Control}
use Rattle.state.specs.declared.KernelState.{KernelState}
use Rattle.state.specs.declared.Phase.{Phase}
use Rattle.state.specs.declared.Phase.TheVariants.{BeforeMatch, ObsQueued, AwaitDecision, Terminal}
use Rattle.rules.specs.Run.{and_then, iter, on_turn}
use Rattle.rules.specs.Phases.{row_at, before_match, settle, next_row, obs_queued, on_phase, phase_turn, turns, phases}
use Rattle.rules.specs.Calls.{answer, entry_refusal, advance}
use Rattle.rules.specs.RowsRead.{Alike, AlikeFrom, RowsRead}
use Rattle.rules.proofs.Entry.{runs_fit}
use Rattle.rules.proofs.Counts.{Fitting, counts-fitting}
use Rattle.rules.proofs.Loop.{run_of, same_then, stable}
use Rattle.rules.proofs.Bounded.{Within, ran_out}
use Rattle.rules.proofs.Fewer.{phase_falls}
use Rattle.rules.proofs.CostsOfRow.{before_control, settle_control, NextControl, row_taken_lem, cut_off, queued_control}
use Rattle.rules.proofs.HowFar.{Far, Reached, turn-far, raised_from, start-far}

-- ---- whether there is a row is seen by looking at it
has_row : (rows : List ℕ) (i : ℕ) → on_some (row_at rows i) (λ (_ : KernelTick). true) false ≡ ltb i (length rows / 5)
unfolding row_at
has_row rows i = pick_case (λ (o : Option KernelTick). on_some o (λ (_ : KernelTick). true) false ≡ ltb i (length rows / 5)) (ltb i (length rows / 5)) _ _ (λ e. unfold on_some in sym e) (λ e. unfold on_some in sym e)

same_end : (u v : List ℕ) (i : ℕ) → Alike u v i → ltb i (length u / 5) ≡ ltb i (length v / 5)
same_end u v i h = sym (has_row u i) ∙ ap (λ (o : Option KernelTick). on_some o (λ (_ : KernelTick). true) false) h ∙ has_row v i

-- alike at the row that stands in `cur_row`, if one does
abbrev AtCurrent : List ℕ → List ℕ → Option ℕ → Type 0
AtCurrent u v w = (i : ℕ) → w ≡ Some i → Alike u v i

some_alike : {A : Type 0} (w : Option ℕ) (k j : ℕ → A) (y z : A) → ((i : ℕ) → w ≡ Some i → k i ≡ j i) → (w ≡ None → y ≡ z) → on_some w k y ≡ on_some w j z
unfolding on_some
some_alike None k j y z h g = g refl
some_alike (Some i) k j y z h g = h i refl

module _ (c : Config) (u v : List ℕ) where
  -- ---- the two turns
  before_alike : (s : KernelState) → AtCurrent u v s.control.cur_row → before_match c u s ≡ before_match c v s
  unfolding before_match
  before_alike s h = some_alike _ _ _ _ _ (λ i e. rw (h i e)) (λ _. refl)

  settle_alike : (s : KernelState) → AtCurrent u v s.control.cur_row → settle c u s ≡ settle c v s
  unfolding settle
  settle_alike s h = some_alike _ _ _ _ _ (λ i e. rw (h i e)) (λ _. refl)

  next_alike : (s : KernelState) → ltb s.control.cursor (length u / 5) ≡ ltb s.control.cursor (length v / 5) → next_row c u s ≡ next_row c v s
  unfolding next_row
  next_alike s h = rw h

  queued_alike : (s : KernelState) → AtCurrent u v s.control.cur_row → ltb s.control.cursor (length u / 5) ≡ ltb s.control.cursor (length v / 5) → obs_queued c u s ≡ obs_queued c v s
  unfolding obs_queued
  queued_alike s h g = rw (settle_alike s h)
      (same_then (settle c v s) (next_row c u) (next_row c v) (λ e. next_alike (settle c v s).state (rw (settle_control c v s e) g)))

  -- ---- the phases, whatever their fuel
  module _ {a b w : ℕ} (rows : (i : ℕ) → a ≤ i → i < b → Alike u v i) where
    cursor_alike : {n : ℕ} (s : KernelState) → s.control.phase ≡ ObsQueued → Far a b w n s → Alike u v s.control.cursor
    cursor_alike s e f = let g = rw e at f.high in rows s.control.cursor f.low (omega (arith, f.seen))

    next-current : {n : ℕ} (s : KernelState) (d : Control) → s.control.phase ≡ ObsQueued → Far a b w n s → AtCurrent u v s.control.cur_row → NextControl v s.control d → AtCurrent u v d.cur_row
    next-current s d e f g (row_taken_lem z q) = rw q (λ i y. let p : s.control.cursor ≡ i = cc in rw p at (cursor_alike s e f))
    next-current s d e f g (cut_off q) = rw q g

    iter_alike : (m n : ℕ) (s : KernelState) → Far a b w n s → AtCurrent u v s.control.cur_row → iter (phase_turn c u) m s ≡ iter (phase_turn c v) m s
    unfolding iter phase_turn
    iter_alike zero n s f g = refl
    iter_alike (suc m) n s f g = go s.control.phase refl (turn-far c v n s f) (iter_alike m)
      where
        go : (p : Phase) → s.control.phase ≡ p → Within (Reached a b w) n (Far a b w) (run_of (on_phase p c v s))
            → ((n : ℕ) (t : KernelState) → Far a b w n t → AtCurrent u v t.control.cur_row → iter (phase_turn c u) m t ≡ iter (phase_turn c v) m t)
            → on_turn (on_phase p c u s) (λ r. and_then r (iter (phase_turn c u) m)) ≡ on_turn (on_phase p c v s) (λ r. and_then r (iter (phase_turn c v) m))
        go BeforeMatch e x ih = rw (before_alike s g) (same_then (before_match c v s) _ _ (λ q. ih _ _ (ran_out x q) (rw (before_control c v s q) g)))
        go ObsQueued e x ih = rw (queued_alike s g (same_end u v _ (cursor_alike s e f)))
            (same_then (obs_queued c v s) _ _ (λ q. ih _ _ (ran_out x q) (next-current s _ e f g (queued_control c v s q))))
        go AwaitDecision e x ih = refl
        go Terminal e x ih = refl

-- any fuel above the turns that are left gives the phases
fuel : (c : Config) (rows : List ℕ) (m : ℕ) (s : KernelState) → turns rows s < m → phases c rows s ≡ iter (phase_turn c rows) m s
unfolding phases
fuel c rows m s w = stable (phase_turn c rows) (turns rows) (phase_falls c rows) (suc (turns rows s)) m s (omega arith) w

phases_alike : (c : Config) (u v : List ℕ) (s : KernelState) → Fitting s → AlikeFrom u v s → phases c u s ≡ phases c v s
phases_alike c u v s f h =
    fuel c u (suc (turns u s + turns v s)) s (omega arith)
    ∙ iter_alike c u v h.onward (suc (turns u s + turns v s)) (raised_from s) s (start-far s f) h.current
    ∙ sym (fuel c v (suc (turns u s + turns v s)) s (omega arith))

pub rows-read : (c : Config) (u v : List ℕ) (s : KernelState) → RowsRead c u v s
unfolding advance entry_refusal
rows-read c u v s e h = rw e (some_alike _ _ _ _ _ (λ _ _. refl) (λ q. ap answer (phases_alike c u v s (counts-fitting s (runs_fit c (length v) s q)) h)))
