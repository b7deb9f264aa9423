-- `walk::pop_observation` meets its contract. Assumes nothing.
use mathlib.Core.Path.{refl}
use Rattle.state.specs.With.{with_observed}
use Rattle.rules.specs.Events.{pop_observation}
use Rattle.reports.proofs.Then.{took_none}
use Rattle.walk.proofs.Walk.{pop_over, pop_pauses}
use Rattle.walk.proofs.pop_observation.Goals as goal

pub returns-in_default : goal.returns-in_default
unfolding pop_observation
returns-in_default c = let s = c.args.s.now in took_none _ _ _ _ _ (with_observed s) s _ refl c.in_default.is c.pop_front.ensures

pub returns-then-s-cfg : goal.returns-then-s-cfg
returns-then-s-cfg c = pop_over _ _ _ _ _ c.in-Some.is c.pop_front.ensures c.if-s-cfg.true c.end.ensures

pub returns : goal.returns
returns c = pop_pauses _ _ _ _ _ c.in-Some.is c.pop_front.ensures c.if-s-cfg.false c.emit.ensures c.pause.ensures
