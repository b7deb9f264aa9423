-- `phases::phases` meets its contract: each turn is one of the rules', by the laws of `Loop`. Assumes nothing.
use mathlib.Core.Path.{sym, ◌∙◌}
use Rattle.phases.proofs.Loop.{turn_before, turn_queued, left_as, phases_done, phases_stop, phases_on, phases_fewer}
use Rattle.phases.proofs.phases.Goals as goal
use Rattle.phases.proofs.phases.Goals.{in-BeforeMatch, in-ObsQueued}

pub phases-smaller : goal.phases-smaller
phases-smaller c =
    elim c.match-s.branch [
      | in-BeforeMatch w ↦ phases_fewer _ _ _ _ (turn_before _ _ _ w.in-BeforeMatch.is) (sym c.if-is_err.ensures.value) (left_as w.went-is w.s-is w.log-is w.before_match-went.ensures)
      | in-ObsQueued w ↦ phases_fewer _ _ _ _ (turn_queued _ _ _ w.in-ObsQueued.is) (sym c.if-is_err.ensures.value) (left_as w.went-is w.s-is w.log-is w.obs_queued-went.ensures)
    ]

pub phases-preserved : goal.phases-preserved
phases-preserved c =
    elim c.match-s.branch [
      | in-BeforeMatch w ↦ phases_on _ _ _ _ (turn_before _ _ _ w.in-BeforeMatch.is) (sym c.if-is_err.ensures.value) (left_as w.went-is w.s-is w.log-is w.before_match-went.ensures) ∙ c.phases.invariant
      | in-ObsQueued w ↦ phases_on _ _ _ _ (turn_queued _ _ _ w.in-ObsQueued.is) (sym c.if-is_err.ensures.value) (left_as w.went-is w.s-is w.log-is w.obs_queued-went.ensures) ∙ c.phases.invariant
    ]

pub returns-in-AwaitDecision : goal.returns-in-AwaitDecision
returns-in-AwaitDecision c = phases_done _ _ _ _ c.in-AwaitDecision.is ∙ c.phases.invariant

pub returns-then-is_err : goal.returns-then-is_err
returns-then-is_err c =
    elim c.match-s.branch [
      | in-BeforeMatch w ↦ phases_stop _ _ _ _ (turn_before _ _ _ w.in-BeforeMatch.is) (sym c.if-is_err.ensures.value) (left_as w.went-is w.s-is w.log-is w.before_match-went.ensures) ∙ c.phases.invariant
      | in-ObsQueued w ↦ phases_stop _ _ _ _ (turn_queued _ _ _ w.in-ObsQueued.is) (sym c.if-is_err.ensures.value) (left_as w.went-is w.s-is w.log-is w.obs_queued-went.ensures) ∙ c.phases.invariant
    ]
