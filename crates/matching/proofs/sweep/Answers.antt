-- `matching::sweep` meets its contract: from each look on, the rest of the sweep gives what the whole gives. Assumes nothing.
use Rattle.std.proofs.Common.{◌∙◌, arith}
use Rattle.reports.proofs.Then.{hands_on_quiet}
use Rattle.matching.proofs.Passes.{all_swept, sweep_end, look_past, look_on, look_stop}
use Rattle.matching.proofs.sweep.Goals as goal
use Rattle.matching.proofs.sweep.Goals.{then-terminal_at+in_ok-leave, else-terminal_at}

pub loop-look-init : goal.loop-look-init
loop-look-init c = (omega arith, all_swept _ _ c.min-looks.ensures)

pub returns-in_err-leave : goal.returns-in_err-leave
returns-in_err-leave c =
    hands_on_quiet _ c.from_residual.ensures (look_stop _ _ _ _ c.loop-look-test.true c.if-terminal_at.ensures c.in_err-leave.ensures ∙ c.loop-look.invariant.1)

pub loop-look-preserved : goal.loop-look-preserved
loop-look-preserved c = elim c.if-terminal_at.branch [
  | then-terminal_at+in_ok-leave w ↦
      (rw w.place-is (omega (arith, c.loop-look.invariant.0)), rw (w.place-is, w.s-is) (look_on _ _ _ _ c.loop-look-test.true w.if-terminal_at.ensures w.in_ok-leave.ensures ∙ c.loop-look.invariant.1))
  | else-terminal_at w ↦
      (rw w.place-is (omega (arith, c.loop-look.invariant.0)), rw (w.place-is, w.s-is) (look_past _ _ _ _ c.loop-look-test.true w.if-terminal_at.ensures ∙ c.loop-look.invariant.1))
]

pub returns : goal.returns
returns c = sweep_end _ _ _ _ c.loop-look-test.false ∙ c.loop-look.invariant.1
