-- The loop of the phases: what a turn leaves is what the rules give for it, and then for the phases from there. Assumes nothing.
use Prim.Native.Nat.{ℕ, ◌<◌}
use mathlib.Core.Bool.{true, false}
use mathlib.Core.List.{List}
use mathlib.Core.Logic.{◌⊎◌, inl, inr}
use mathlib.Core.Path.{◌≡◌, refl, sym, ap, ◌∙◌, subst}
use Rattle.std.specs.Prelude.{Result, Ok, Err, is_err}
use Rattle.lists.proofs.Cases.{different}
use Rattle.book.specs.declared.config.Config.{Config}
use Rattle.state.specs.declared.KernelState.{KernelState}
use Rattle.state.specs.declared.Phase.TheVariants.{BeforeMatch, ObsQueued, AwaitDecision, Terminal}
use Rattle.rules.specs.Run.{Run, ran_to, again, last}
use Rattle.rules.specs.Phases.{before_match, obs_queued, on_phase, phase_turn, turns, phases}
use Rattle.rules.proofs.Fewer.{phase_falls, phases-again, phases-last}
use Rattle.reports.specs.Log.{Logged, log_of, StepResult, expected, actual}
use Rattle.reports.specs.declared.Stop.{Stop}
use Rattle.reports.specs.declared.log.Log.{Log}
use Rattle.reports.proofs.Then.{ran_here, ran_there, then_on, then_stop}

-- ---- what a phase does
module _ (c : Config) (rows : List ℕ) (s : KernelState) where
  pub turn_before : s.control.phase ≡ BeforeMatch → phase_turn c rows s ≡ again (before_match c rows s)
  unfolding phase_turn
  turn_before h = ap (λ p. on_phase p c rows s) h

  pub turn_queued : s.control.phase ≡ ObsQueued → phase_turn c rows s ≡ again (obs_queued c rows s)
  unfolding phase_turn
  turn_queued h = ap (λ p. on_phase p c rows s) h

  turn_paused : s.control.phase ≡ AwaitDecision → phase_turn c rows s ≡ last (ran_to s)
  unfolding phase_turn
  turn_paused h = ap (λ p. on_phase p c rows s) h

  turn_over : s.control.phase ≡ Terminal → phase_turn c rows s ≡ last (ran_to s)
  unfolding phase_turn
  turn_over h = ap (λ p. on_phase p c rows s) h

-- what stands behind a join is what one of its arms left
pub left_as : {o p : Result (Unit {0}) Stop} {t u : KernelState} {m n : Log} {x : StepResult} → o ≡ p → t ≡ u → m ≡ n → actual p u (log_of n) ≡ x → actual o t (log_of m) ≡ x
left_as eo et em e = rw (eo, et, em) e

-- ---- the phases from s, with the log l
module _ (c : Config) (rows : List ℕ) (s : KernelState) (l : Logged) where
  stays_here : phase_turn c rows s ≡ last (ran_to s) → actual (Ok tt) s l ≡ expected l (phases c rows s)
  stays_here t = ran_here l s ∙ ap (expected l) (sym (phases-last c rows s (ran_to s) t))

  pub phases_done : (s.control.phase ≡ AwaitDecision) ⊎ (s.control.phase ≡ Terminal) → actual (Ok tt) s l ≡ expected l (phases c rows s)
  phases_done (inl h) = stays_here (turn_paused c rows s h)
  phases_done (inr h) = stays_here (turn_over c rows s h)

  module _ {r : Run} (turn : phase_turn c rows s ≡ again r) {t : KernelState} {m : Logged} where
    -- the turn's step stopped
    pub phases_stop : {o : Result (Unit {0}) Stop} → is_err o ≡ true → actual o t m ≡ expected l r → actual o t m ≡ expected l (phases c rows s)
    phases_stop {o = Err w} h e = then_stop l r (phases c rows) e ∙ ap (expected l) (sym (phases-again c rows s r turn))
    phases_stop {o = Ok v} h e = different cc

    -- it ran: the phases go on from there
    pub phases_on : {o : Result (Unit {0}) Stop} → is_err o ≡ false → actual o t m ≡ expected l r → expected m (phases c rows t) ≡ expected l (phases c rows s)
    phases_on {o = Ok v} h e = then_on l r (phases c rows) e refl ∙ ap (expected l) (sym (phases-again c rows s r turn))
    phases_on {o = Err w} h e = different cc

    pub phases_fewer : {o : Result (Unit {0}) Stop} → is_err o ≡ false → actual o t m ≡ expected l r → turns rows t < turns rows s
    phases_fewer {o = Ok v} h e = let g = ran_there l r e in subst (λ (x : KernelState). turns rows x < turns rows s) g.1 (phase_falls c rows s r turn g.0)
    phases_fewer {o = Err w} h e = different cc
