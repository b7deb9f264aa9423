-- The phases: one law for each way out of a function. Assumes nothing.
use Prim.Native.Nat.{ℕ, ◌+◌, ◌/◌, ◌≤◌, ◌<◌, max}
use mathlib.Core.Bool.{true, false}
use mathlib.Core.List.{List}
use mathlib.Core.Path.{◌≡◌, ap, ◌∙◌}
use lib.Dec.{ltb}
use lib.ListN.{length}
use borrow.Author.Tests.{le-leb, lt-leb, ltb-true}
use Rattle.std.specs.Prelude.{Option, Some, None, Result, Ok, Err, is_some}
use Rattle.numbers.specs.Choice.{pick}
use Rattle.numbers.specs.Words.{fits, fitting}
use Rattle.lists.specs.Lists.{put_of, pushed}
use Rattle.lists.proofs.Cases.{pick_case, on_true, on_false, on_none, on_one, different}
use Rattle.lists.proofs.Exits.{full_same}
use Rattle.lists.specs.declared.Counted.{Counted}
use Rattle.lists.specs.declared.Full.{Full}
use Rattle.book.specs.Capacities.{observed_capacity}
use Rattle.book.specs.declared.ObsEntry.{ObsEntry}
use Rattle.book.specs.declared.config.Config.{Config}
use Rattle.book.specs.declared.config.KernelTick.{KernelTick}
use Rattle.observed.specs.Rows.{Observed}
use Rattle.state.specs.With.{with_control, with_clock, with_observed, control_phase, clock_now_ns, clock_last_observed_ns}
use Rattle.state.specs.declared.Control.{Control}
use Rattle.state.specs.declared.HaltReason.{HaltReason}
use Rattle.state.specs.declared.HaltReason.TheVariants.{LedgerOverflow, CounterOverflow}
use Rattle.state.specs.declared.KernelEvent.TheVariants.{RowEnd}
use Rattle.state.specs.declared.KernelState.{KernelState}
use Rattle.state.specs.declared.Phase.TheVariants.{ObsQueued}
use Rattle.rules.specs.Run.{Run, halt_at, ran_to, raised, and_then, putting}
use Rattle.rules.specs.Report.{delayed}
use Rattle.rules.specs.Matching.{match_row}
use Rattle.rules.specs.Delivery.{end_of_data}
use Rattle.rules.specs.Events.{clock_to, truncated, truncates, run_events}
use Rattle.rules.specs.Phases.{row_at, queue_observation, match_phase, before_match, settle_row, settle, to_row, to_next_row, next_row}
use Rattle.rules.proofs.Cases.{fits_some, fits_none}
use Rattle.reports.specs.Log.{Logged, append_event, StepResult, expected, actual}
use Rattle.reports.specs.declared.Stop.{Stop}
use Rattle.reports.specs.declared.Stop.TheVariants.{Halt}
use Rattle.reports.proofs.Then.{ran_here, halted_here, then_on, then_stop, raise_here, put_on, put_full}

-- ---- the observation
module _ (c : Config) (i : ℕ) (row : KernelTick) (s : KernelState) {t : KernelState} where
  -- there is no time
  pub observed_late : {h : HaltReason} → ((k : ℕ → KernelState → Run) → halt_at h t ≡ delayed c row.ts_ns c.observation_q s k) → halt_at h t ≡ queue_observation c i row s
  unfolding queue_observation
  observed_late e = e _

  module _ {at q : ℕ} (e : (k : ℕ → KernelState → Run) → k at t ≡ delayed c row.ts_ns c.observation_q s k) (hq : q ≡ max at t.clock.last_observed_ns) where
    abbrev entry : ℕ → ObsEntry
    entry ready = record { ready_ns = ready; row = i }

    abbrev clocked : ℕ → KernelState
    clocked ready = with_clock t (clock_last_observed_ns t.clock ready)

    abbrev queued : ℕ → Observed → KernelState
    queued ready l = with_control (with_observed (clocked ready) l) (control_phase t.control ObsQueued)

    -- there is no room
    pub observed_full : {l : Observed} {f : Full} {a : Counted (Result (Unit {0}) Full)} → a.answer ≡ Err f → put_of a l ≡ pushed observed_capacity (entry q) t.observed → halt_at CounterOverflow (with_observed (clocked q) l) ≡ queue_observation c i row s
    unfolding queue_observation
    observed_full g p =
        ap (λ x. halt_at CounterOverflow (with_observed (clocked q) x)) (full_same observed_capacity t.observed t.observed.count (entry q) g p)
        ∙ put_full (pushed observed_capacity (entry q) t.observed) (queued q) (clocked q) g p
        ∙ ap (λ x. putting (pushed observed_capacity (entry x) t.observed) (queued x) (clocked x)) hq ∙ e _

    pub observed_in : {l : Observed} {a : Counted (Result (Unit {0}) Full)} → a.answer ≡ Ok tt → put_of a l ≡ pushed observed_capacity (entry q) t.observed → ran_to (queued q l) ≡ queue_observation c i row s
    unfolding queue_observation
    observed_in g p =
        put_on (pushed observed_capacity (entry q) t.observed) (queued q) (clocked q) g p
        ∙ ap (λ x. putting (pushed observed_capacity (entry x) t.observed) (queued x) (clocked x)) hq ∙ e _

-- ---- BeforeMatch
module _ (c : Config) (rows : List ℕ) (s : KernelState) (l : Logged) where
  pub match_nowhere : s.control.cur_row ≡ None → actual (Err (Halt CounterOverflow)) s l ≡ expected l (before_match c rows s)
  unfolding before_match
  match_nowhere h = halted_here l CounterOverflow s ∙ ap (expected l) (on_none _ _ h)

  pub match_no_row : {i : ℕ} → s.control.cur_row ≡ Some i → row_at rows i ≡ None → actual (Err (Halt CounterOverflow)) s l ≡ expected l (before_match c rows s)
  unfolding before_match
  match_no_row h g = halted_here l CounterOverflow s ∙ ap (expected l) (on_none _ _ g ∙ on_one _ _ h)

  module _ {i : ℕ} {row : KernelTick} (h : s.control.cur_row ≡ Some i) (g : row_at rows i ≡ Some row) where
    match_is : match_phase c i row s ≡ before_match c rows s
    unfolding before_match
    match_is = on_one _ _ g ∙ on_one _ _ h

    abbrev matching : KernelState → Run
    matching t = and_then (match_row c row (clock_to row.ts_ns t)) (queue_observation c i row)

    matched : {x : StepResult} → x ≡ expected l (and_then (run_events c row.ts_ns s) matching) → x ≡ expected l (before_match c rows s)
    unfolding match_phase
    matched e = e ∙ ap (expected l) match_is

    -- the walk stopped
    pub match_walked : {w : Stop} {t : KernelState} {m : Logged} → actual (Err w) t m ≡ expected l (run_events c row.ts_ns s) → actual (Err w) t m ≡ expected l (before_match c rows s)
    match_walked e = matched (then_stop l (run_events c row.ts_ns s) matching e)

    module _ {t : KernelState} {m : Logged} {q : ℕ} (e : actual (Ok tt) t m ≡ expected l (run_events c row.ts_ns s)) (hq : q ≡ max row.ts_ns t.clock.now_ns) where
      abbrev risen : ℕ → KernelState
      risen x = with_clock t (clock_now_ns t.clock x)

      opened : {x : StepResult} → x ≡ expected m (and_then (match_row c row (risen q)) (queue_observation c i row)) → x ≡ expected l (before_match c rows s)
      opened f = matched (then_on l (run_events c row.ts_ns s) matching e (f ∙ ap (λ x. expected m (and_then (match_row c row (risen x)) (queue_observation c i row))) hq))

      -- the match halted
      pub match_halted : {w : Stop} {u : KernelState} {n : Logged} → actual (Err w) u n ≡ expected m (match_row c row (risen q)) → actual (Err w) u n ≡ expected l (before_match c rows s)
      match_halted f = opened (then_stop m (match_row c row (risen q)) (queue_observation c i row) f)

      module _ {u : KernelState} {n : Logged} (f : actual (Ok tt) u n ≡ expected m (match_row c row (risen q))) {v : KernelState} where
        -- the observation halted
        pub match_unseen : {r : HaltReason} → halt_at r v ≡ queue_observation c i row u → actual (Err (Halt r)) v n ≡ expected l (before_match c rows s)
        match_unseen {r = r} o = opened (then_on m (match_row c row (risen q)) (queue_observation c i row) f (halted_here n r v ∙ ap (expected n) o))

        pub match_seen : ran_to v ≡ queue_observation c i row u → actual (Ok tt) v n ≡ expected l (before_match c rows s)
        match_seen o = opened (then_on m (match_row c row (risen q)) (queue_observation c i row) f (ran_here n v ∙ ap (expected n) o))

-- ---- ObsQueued: the row's end
module _ (c : Config) (rows : List ℕ) (s : KernelState) (l : Logged) where
  pub settle_nothing : s.control.cur_row ≡ None → actual (Ok tt) s l ≡ expected l (settle c rows s)
  unfolding settle
  settle_nothing h = ran_here l s ∙ ap (expected l) (on_none _ _ h)

  pub settle_no_row : {i : ℕ} → s.control.cur_row ≡ Some i → row_at rows i ≡ None → actual (Err (Halt CounterOverflow)) s l ≡ expected l (settle c rows s)
  unfolding settle
  settle_no_row h g = halted_here l CounterOverflow s ∙ ap (expected l) (on_none _ _ g ∙ on_one _ _ h)

  module _ {i : ℕ} {row : KernelTick} (h : s.control.cur_row ≡ Some i) (g : row_at rows i ≡ Some row) where
    settle_is : settle_row c i row s ≡ settle c rows s
    unfolding settle
    settle_is = on_one _ _ g ∙ on_one _ _ h

    abbrev ending : KernelState → Run
    ending t = pick (fits (row.bid + row.ask)) (raised (RowEnd i row.ts_ns) t) (halt_at LedgerOverflow t)

    settled : {x : StepResult} → x ≡ expected l (and_then (run_events c row.ts_ns s) ending) → x ≡ expected l (settle c rows s)
    unfolding settle_row
    settled e = e ∙ ap (expected l) settle_is

    pub settle_walked : {w : Stop} {t : KernelState} {m : Logged} → actual (Err w) t m ≡ expected l (run_events c row.ts_ns s) → actual (Err w) t m ≡ expected l (settle c rows s)
    settle_walked e = settled (then_stop l (run_events c row.ts_ns s) ending e)

    module _ {t : KernelState} {m : Logged} (e : actual (Ok tt) t m ≡ expected l (run_events c row.ts_ns s)) where
      -- the doubled mid does not fit
      pub settle_past : fitting (row.bid + row.ask) ≡ None → actual (Err (Halt LedgerOverflow)) t m ≡ expected l (settle c rows s)
      settle_past f = settled (then_on l (run_events c row.ts_ns s) ending e (halted_here m LedgerOverflow t ∙ ap (expected m) (on_false _ _ (fits_none _ f))))

      pub settle_told : {x : ℕ} {n : Logged} → fitting (row.bid + row.ask) ≡ Some x → n ≡ append_event m (RowEnd i row.ts_ns) → actual (Ok tt) t n ≡ expected l (settle c rows s)
      settle_told f p = settled (then_on l (run_events c row.ts_ns s) ending e (raise_here m _ (RowEnd i row.ts_ns) t p ∙ ap (expected m) (on_true _ _ (fits_some _ f))))

-- ---- the next row
-- there is a row only below the count of the rows
row_none : (rows : List ℕ) (i : ℕ) → is_some (row_at rows i) ≡ false → ltb i (length rows / 5) ≡ false
unfolding row_at
row_none rows i e = pick_case (λ (o : Option KernelTick). is_some o ≡ false → ltb i (length rows / 5) ≡ false) (ltb i (length rows / 5)) _ _ (λ _ f. different cc) (λ h _. h) e

row_there : (rows : List ℕ) (i : ℕ) → is_some (row_at rows i) ≡ true → ltb i (length rows / 5) ≡ true
unfolding row_at
row_there rows i e = pick_case (λ (o : Option KernelTick). is_some o ≡ true → ltb i (length rows / 5) ≡ true) (ltb i (length rows / 5)) _ _ (λ h _. h) (λ _ f. different cc) e

pub row_below : (rows : List ℕ) (i : ℕ) → is_some (row_at rows i) ≡ true → i < length rows / 5
row_below rows i e = ltb-true _ _ (row_there rows i e)

module _ (c : Config) (rows : List ℕ) (s : KernelState) (l : Logged) where
  pub next_none : is_some (row_at rows s.control.cursor) ≡ false → {x : StepResult} → x ≡ expected l (end_of_data s) → x ≡ expected l (next_row c rows s)
  unfolding next_row
  next_none h e = e ∙ ap (expected l) (on_false _ _ (row_none rows s.control.cursor h))

  module _ (h : is_some (row_at rows s.control.cursor) ≡ true) where
    pub next_over : c.s_max ≤ s.control.step → {k : Control} → k ≡ truncated s.control → actual (Ok tt) (with_control s k) l ≡ expected l (next_row c rows s)
    unfolding next_row
    next_over m e =
        ap (λ x. actual (Ok tt) (with_control s x) l) e ∙ ran_here l (truncates s)
        ∙ ap (expected l) (on_true _ _ (le-leb _ _ m) ∙ on_true _ _ (row_there rows s.control.cursor h))

    pub next_on : s.control.step < c.s_max → {k : Control} → k ≡ to_row s.control (s.control.cursor + 1) → actual (Ok tt) (with_control s k) l ≡ expected l (next_row c rows s)
    unfolding next_row
    next_on m e =
        ap (λ x. actual (Ok tt) (with_control s x) l) e ∙ ran_here l (to_next_row s)
        ∙ ap (expected l) (on_false _ _ (lt-leb _ _ m) ∙ on_true _ _ (row_there rows s.control.cursor h))
