-- `matching::fill_event` meets its contract. Assumes nothing.
use Rattle.reports.proofs.Then.{hands_on}
use Rattle.matching.proofs.Fills.{event_unstamped, event_ungated, event_priceless, event_unnumbered, event_uncounted, event_told, told_is}
use Rattle.matching.proofs.fill_event.Goals as goal

pub returns-in_err-stamped-clause-rule : goal.returns-in_err-stamped-clause-rule
returns-in_err-stamped-clause-rule c = hands_on _ c.from_residual.ensures (event_unstamped _ _ _ _ _ c.in_err-stamped.ensures.rule)

pub returns-in_err-gate-clause-rule : goal.returns-in_err-gate-clause-rule
returns-in_err-gate-clause-rule c = hands_on _ c.from_residual-in_err-gate.ensures (event_ungated _ _ _ _ _ c.in_ok-stamped.ensures.rule c.fill.ensures c.in_err-gate.ensures.value)

pub returns-in_err-ok_or-clause-rule : goal.returns-in_err-ok_or-clause-rule
returns-in_err-ok_or-clause-rule c =
    hands_on _ c.from_residual-in_err-ok_or.ensures
    (event_priceless _ _ _ _ _ c.in_ok-stamped.ensures.rule c.fill.ensures c.in_ok-gate.ensures.ok_part c.checked_mul.ensures c.in_err-ok_or.ensures.value)

pub returns-in_err-next_exec_id-clause-rule : goal.returns-in_err-next_exec_id-clause-rule
returns-in_err-next_exec_id-clause-rule c =
    hands_on _ c.from_residual-in_err-next_exec_id.ensures
    (event_unnumbered _ _ _ _ _ c.in_ok-stamped.ensures.rule c.fill.ensures c.in_ok-gate.ensures.ok_part c.checked_mul.ensures c.in_ok-ok_or.ensures.ok_part
    c.checked_add.ensures c.in_err-next_exec_id.ensures.value)

pub returns-in_err-s-clause-rule : goal.returns-in_err-s-clause-rule
returns-in_err-s-clause-rule c =
    hands_on _ c.from_residual-in_err-s.ensures
    (event_uncounted _ _ _ _ _ c.in_ok-stamped.ensures.rule c.fill.ensures c.in_ok-gate.ensures.ok_part c.checked_mul.ensures c.in_ok-ok_or.ensures.ok_part
    c.checked_add.ensures c.in_ok-next_exec_id.ensures.ok_part c.checked_add-2.ensures c.in_err-s.ensures.value)

pub returns-clause-rule : goal.returns-clause-rule
returns-clause-rule c =
    event_told _ _ _ _ _ c.in_ok-stamped.ensures.rule c.fill.ensures c.in_ok-gate.ensures.ok_part c.checked_mul.ensures c.in_ok-ok_or.ensures.ok_part
    c.checked_add.ensures c.in_ok-next_exec_id.ensures.ok_part c.checked_add-2.ensures c.in_ok-s.ensures.ok_part
    c.in_ok-stamped.ensures.answer c.emit.ensures

pub returns-clause-answer : goal.returns-clause-answer
returns-clause-answer c = told_is c.args.order.now c.args.lots _ _ c.in_ok-stamped.ensures.rule c.in_ok-stamped.ensures.answer
