-- `matching::sweep` meets its contract: from each look on, the rest of the sweep gives what the whole gives. Assumes nothing.
use Rattle.std.proofs.Common.{◌≡◌, ◌-◌, ◌≤◌}
use Rattle.rules.specs.Matching.{sweep_from, sweep}
use Rattle.matching.proofs.sweep.Given as goal

abbrev pub invariant-loop-look : goal.invariant-loop-look
invariant-loop-look l = (l.place ≤ l._look) × (sweep_from (l.looks - l._look) l.place l.s ≡ sweep l.initial.s)
