-- 'Phases'.
use Rattle.std.specs.Prelude.{ℕ, suc, ◌+◌, ◌-◌, ◌*◌, ◌/◌, max, List, ltb, leb, get_or, length, Option, Some, None}
use Rattle.numbers.specs.Choice.{pick, on_some}
use Rattle.numbers.specs.Words.{fits}
use Rattle.lists.specs.Lists.{pushed}
use Rattle.book.specs.Capacities.{observed_capacity}
use Rattle.state.specs.With.{with_control, with_clock, with_observed, control_phase, control_cursor, control_cur_row, clock_last_observed_ns}
use Rattle.book.specs.declared.config.Config.{Config}
use Rattle.book.specs.declared.config.KernelTick.{KernelTick}
use Rattle.state.specs.declared.Control.{Control}
use Rattle.state.specs.declared.HaltReason.TheVariants.{LedgerOverflow, CounterOverflow}
use Rattle.state.specs.declared.KernelEvent.TheVariants.{RowEnd}
use Rattle.state.specs.declared.KernelState.{KernelState}
use Rattle.state.specs.declared.Phase.{Phase}
use Rattle.state.specs.declared.Phase.TheVariants.{BeforeMatch, ObsQueued, AwaitDecision, Terminal}
use Rattle.rules.specs.Run.{Run, ran_to, halt_at, raised, and_then, putting, Turn, again, last, iter}
use Rattle.rules.specs.Report.{delayed}
use Rattle.rules.specs.Matching.{match_row}
use Rattle.rules.specs.Delivery.{end_of_data}
use Rattle.rules.specs.Events.{clock_to, truncates, run_events}

-- "Rows: five words each, ts_ns, bid, bid_lots, ask, ask_lots"
unfoldable pub row_at : List ℕ → ℕ → Option KernelTick
row_at rows i =
    pick (ltb i (length rows / 5))
    (Some (record { ts_ns = get_or rows (5 * i) 0; bid = get_or rows (5 * i + 1) 0; bid_lots = get_or rows (5 * i + 2) 0; ask = get_or rows (5 * i + 3) 0; ask_lots = get_or rows (5 * i + 4) 0 }))
    None

-- "queue the observation (row time plus the delay from `observation_q`, never below `last_observed_ns`, which takes it before the push), go to ObsQueued"
unfoldable pub queue_observation : Config → ℕ → KernelTick → KernelState → Run
queue_observation c i row s =
    delayed c row.ts_ns c.observation_q s λ at t.
    let ready : ℕ = max at t.clock.last_observed_ns in
    let u : KernelState = with_clock t (clock_last_observed_ns t.clock ready) in
    putting (pushed observed_capacity (record { ready_ns = ready; row = i }) u.observed)
    (λ l. with_control (with_observed u l) (control_phase u.control ObsQueued))
    u

-- "BeforeMatch: run events up to the row's time, raise `now_ns` to it, match, queue the observation"
unfoldable pub match_phase : Config → ℕ → KernelTick → KernelState → Run
match_phase c i row s =
    and_then (run_events c row.ts_ns s) λ t.
    and_then (match_row c row (clock_to row.ts_ns t))
    (queue_observation c i row)

-- "phase: `cur_row` no row, or none in BeforeMatch: 7"
unfoldable pub before_match : Config → List ℕ → KernelState → Run
before_match c rows s =
    on_some s.control.cur_row
    (λ i. on_some (row_at rows i) (λ row. match_phase c i row s) (halt_at CounterOverflow s))
    (halt_at CounterOverflow s)

-- "run events up to that row's time, then write row end"; "match, row end: bid + ask past 64 bits: 5"
unfoldable pub settle_row : Config → ℕ → KernelTick → KernelState → Run
settle_row c i row s =
    and_then (run_events c row.ts_ns s) λ t.
    pick (fits (row.bid + row.ask)) (raised (RowEnd i row.ts_ns) t) (halt_at LedgerOverflow t)

-- "ObsQueued: if `cur_row` is set, .."
unfoldable pub settle : Config → List ℕ → KernelState → Run
settle c rows s =
    on_some s.control.cur_row
    (λ i. on_some (row_at rows i) (λ row. settle_row c i row s) (halt_at CounterOverflow s))
    (ran_to s)

-- "Otherwise `cur_row` becomes the cursor, the cursor rises, BeforeMatch."
abbrev pub to_row : Control → ℕ → Control
to_row c n = control_phase (control_cursor (control_cur_row c (Some c.cursor)) n) BeforeMatch

-- the same of a state: the row at its cursor
abbrev pub to_next_row : KernelState → KernelState
to_next_row s = with_control s (to_row s.control (s.control.cursor + 1))

-- "No row at the cursor: end of data. `step` at or above `s_max`: Truncated, Terminal."
unfoldable pub next_row : Config → List ℕ → KernelState → Run
next_row c rows s =
    pick (ltb s.control.cursor (length rows / 5))
    (pick (leb c.s_max s.control.step) (ran_to (truncates s)) (ran_to (to_next_row s)))
    (end_of_data s)

-- "ObsQueued": the row's end, then the next row
unfoldable pub obs_queued : Config → List ℕ → KernelState → Run
obs_queued c rows s = and_then (settle c rows s) (next_row c rows)

-- "AwaitDecision and Terminal return at once."
abbrev pub on_phase : Phase → Config → List ℕ → KernelState → Turn
on_phase BeforeMatch c rows s = again (before_match c rows s)
on_phase ObsQueued c rows s = again (obs_queued c rows s)
on_phase AwaitDecision c rows s = last (ran_to s)
on_phase Terminal c rows s = last (ran_to s)

-- one turn, by the phase
unfoldable pub phase_turn : Config → List ℕ → KernelState → Turn
phase_turn c rows s = on_phase s.control.phase c rows s

-- more than the turns that are left: two a row
abbrev pub turns_in : Phase → ℕ
turns_in BeforeMatch = 2
turns_in ObsQueued = 1
turns_in AwaitDecision = 0
turns_in Terminal = 0

-- the turns that the phases are given, less one
unfoldable pub turns : List ℕ → KernelState → ℕ
turns rows s = 2 * (length rows / 5 - s.control.cursor) + turns_in s.control.phase

-- the phases until one returns, or a step stops
unfoldable pub phases : Config → List ℕ → KernelState → Run
phases c rows s = iter (phase_turn c rows) (suc (turns rows s)) s
