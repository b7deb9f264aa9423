-- Each phase makes the turns that are left fewer, for all states: the fuel of the phases never runs out. Assumes nothing.
use Prim.Native.Nat.{ℕ, ◌<◌}
use mathlib.Core.List.{List}
use mathlib.Core.Path.{◌≡◌, refl, ap}
use native.Mathlib.Omega.{arith}
use Rattle.lists.proofs.Cases.{different}
use Rattle.book.specs.declared.config.Config.{Config}
use Rattle.state.specs.declared.KernelState.{KernelState}
use Rattle.state.specs.declared.Phase.{Phase}
use Rattle.state.specs.declared.Phase.TheVariants.{BeforeMatch, ObsQueued, AwaitDecision, Terminal}
use Rattle.rules.specs.Run.{Run, ran, and_then, again, last}
use Rattle.rules.specs.Phases.{before_match, obs_queued, on_phase, phase_turn, turns_in, turns, phases}
use Rattle.rules.proofs.Loop.{run-again, run-last}
use Rattle.rules.proofs.CostsOfRow.{before_control, NextControl, row_taken_lem, cut_off, queued_control}

pub phase_falls : (c : Config) (rows : List ℕ) (s : KernelState) (r : Run) → phase_turn c rows s ≡ again r → r.outcome ≡ ran → turns rows r.state < turns rows s
unfolding phase_turn turns
phase_falls c rows s r = go s.control.phase refl
  where
    later : s.control.phase ≡ ObsQueued → NextControl rows s.control r.state.control → turns rows r.state < turns rows s
    later e (row_taken_lem w g) = rw g (omega (arith, ap turns_in e))
    later e (cut_off g) = rw g (omega (arith, ap turns_in e))

    go : (y : Phase) → s.control.phase ≡ y → on_phase y c rows s ≡ again r → r.outcome ≡ ran → turns rows r.state < turns rows s
    go BeforeMatch e z q = let f : before_match c rows s ≡ r = cc in let g = rw f at (before_control c rows s) in rw (g q) (omega (arith, ap turns_in e))
    go ObsQueued e z q = let f : obs_queued c rows s ≡ r = cc in let g = rw f at (queued_control c rows s) in later e (g q)
    go AwaitDecision e z q = different cc
    go Terminal e z q = different cc

-- the phases from here are this turn, and the phases from there
pub phases-again : (c : Config) (rows : List ℕ) (s : KernelState) (r : Run) → phase_turn c rows s ≡ again r → phases c rows s ≡ and_then r (phases c rows)
unfolding phases
phases-again c rows s r e = run-again (phase_turn c rows) (turns rows) (phase_falls c rows) s r e

pub phases-last : (c : Config) (rows : List ℕ) (s : KernelState) (r : Run) → phase_turn c rows s ≡ last r → phases c rows s ≡ r
unfolding phases
phases-last c rows s r e = run-last (phase_turn c rows) (turns rows) (phase_falls c rows) s r e
