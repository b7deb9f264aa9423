-- The walk over the events and the phases keep what is held. Assumes nothing.
use Prim.Native.Nat.{ℕ}
use mathlib.Core.List.{List}
use native.Mathlib.Omega.{arith}
use Rattle.book.specs.declared.config.Config.{Config}
use Rattle.book.specs.declared.config.KernelTick.{KernelTick}
use Rattle.state.specs.declared.KernelState.{KernelState}
use Rattle.state.specs.declared.Phase.{Phase}
use Rattle.state.specs.declared.Phase.TheVariants.{BeforeMatch, ObsQueued, AwaitDecision, Terminal}
use Rattle.rules.specs.Events.{pop_observation, Class, venue, delivery, observation, Next, nothing, next, next_of, handle, turn_on, event_turn, run_events}
use Rattle.rules.specs.Phases.{queue_observation, match_phase, before_match, settle_row, settle, next_row, obs_queued, on_phase, phase_turn, phases}
use Rattle.rules.proofs.Loop.{run_of}
use Rattle.rules.proofs.Kept.{ran-kept, raised-kept, halt-kept, left-kept, pick-kept, some-kept, taking-kept, putting-kept, then_kept, kept_map, iter-kept}
use Rattle.rules.proofs.Steps.{delayed-kept}
use Rattle.rules.proofs.Held.{Inv, Good}
use Rattle.rules.proofs.HeldMessages.{apply_good}
use Rattle.rules.proofs.HeldMatching.{match_row_good}
use Rattle.rules.proofs.HeldDelivery.{deliver-good, end_good}

-- ---- the walk
observe_good : (c : Config) (s : KernelState) → Inv s → Good Inv (pop_observation c s)
unfolding pop_observation
observe_good c s h = taking-kept (λ e l k. pick-kept _ (left-kept h) (left-kept h)) (λ _. ran-kept h)

handle-good : (c : Config) (k : Class) (s : KernelState) → Inv s → Good Inv (handle c k s)
handle-good c venue s h = apply_good c s h
handle-good c delivery s h = kept_map (λ t g. g.0) (deliver-good s.deliveries.count s h (omega arith))
handle-good c observation s h = observe_good c s h

turn-good : (c : Config) (n : Next) (s : KernelState) → Inv s → Good Inv (run_of (turn_on c n s))
turn-good c nothing s h = ran-kept h
turn-good c (next k t) s h = handle-good c k _ h

event_good : (c : Config) (limit : ℕ) (s : KernelState) → Inv s → Good Inv (run_of (event_turn c limit s))
unfolding event_turn
event_good c limit s h = turn-good c (next_of limit s) s h

walk_good : (c : Config) (limit : ℕ) (s : KernelState) → Inv s → Good Inv (run_events c limit s)
unfolding run_events
walk_good c limit s h = iter-kept Inv (event_turn c limit) (event_good c limit) _ s h

-- ---- the phases
queue_good : (c : Config) (i : ℕ) (row : KernelTick) (s : KernelState) → Inv s → Good Inv (queue_observation c i row s)
unfolding queue_observation
queue_good c i row s h = delayed-kept c _ _ s _ (λ at rng. putting-kept _ _ _ (λ l _. h))

before-good : (c : Config) (rows : List ℕ) (s : KernelState) → Inv s → Good Inv (before_match c rows s)
unfolding before_match match_phase
before-good c rows s h = some-kept _
    (λ i. some-kept _ (λ row. then_kept (walk_good c _ s h) (λ t g. then_kept (match_row_good c row _ g) (queue_good c i row))) halt-kept)
    halt-kept

settle-good : (c : Config) (rows : List ℕ) (s : KernelState) → Inv s → Good Inv (settle c rows s)
unfolding settle settle_row
settle-good c rows s h = some-kept _
    (λ i. some-kept _ (λ row. then_kept (walk_good c _ s h) (λ t g. pick-kept _ (raised-kept g) halt-kept)) halt-kept)
    (ran-kept h)

next-good : (c : Config) (rows : List ℕ) (s : KernelState) → Inv s → Good Inv (next_row c rows s)
unfolding next_row
next-good c rows s h = pick-kept _ (pick-kept _ (ran-kept h) (ran-kept h)) (end_good s h)

on_phase_good : (p : Phase) (c : Config) (rows : List ℕ) (s : KernelState) → Inv s → Good Inv (run_of (on_phase p c rows s))
unfolding obs_queued
on_phase_good BeforeMatch c rows s h = before-good c rows s h
on_phase_good ObsQueued c rows s h = then_kept (settle-good c rows s h) (next-good c rows)
on_phase_good AwaitDecision c rows s h = ran-kept h
on_phase_good Terminal c rows s h = ran-kept h

phase_good : (c : Config) (rows : List ℕ) (s : KernelState) → Inv s → Good Inv (run_of (phase_turn c rows s))
unfolding phase_turn
phase_good c rows s h = on_phase_good s.control.phase c rows s h

pub phases-good : (c : Config) (rows : List ℕ) (s : KernelState) → Inv s → Good Inv (phases c rows s)
unfolding phases
phases-good c rows s h = iter-kept Inv (phase_turn c rows) (phase_good c rows) _ s h
