-- `walk::run_events` meets its contract: the rest of the walk, behind the events that were handled, is the whole. Assumes nothing.
use mathlib.Core.Path.{◌∙◌}
use Rattle.walk.proofs.Walk.{walk_done, walk_goes, walk_stops, walk_falls}
use Rattle.walk.proofs.run_events.Goals as goal

pub loop-due-preserved : goal.loop-due-preserved
loop-due-preserved c = walk_goes _ _ _ _ _ _ _ _ _ c.in-Some.ensures c.max-s.ensures c.in_default-handle.ensures ∙ c.loop-due.invariant

pub loop-due-smaller : goal.loop-due-smaller
loop-due-smaller c = walk_falls _ _ _ _ _ _ _ _ _ c.in-Some.ensures c.max-s.ensures c.in_default-handle.ensures

pub returns-in_default : goal.returns-in_default
returns-in_default c = walk_done _ _ _ _ c.in_default.ensures ∙ c.loop-due.invariant

pub returns-in-Err : goal.returns-in-Err
returns-in-Err c = walk_stops _ _ _ _ _ _ _ _ _ c.in-Some.ensures c.max-s.ensures c.in-Err.ensures ∙ c.loop-due.invariant
