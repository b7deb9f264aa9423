-- `phases::settle` meets its contract, by the laws of `Exits`. Assumes nothing.
use mathlib.Core.Path.{sym, ◌∙◌}
use Rattle.lists.proofs.Cases.{some_of, none_of}
use Rattle.reports.proofs.Then.{hands_stop}
use Rattle.phases.proofs.Exits.{settle_nothing, settle_no_row, settle_walked, settle_past, settle_told}
use Rattle.phases.proofs.settle.Goals as goal

pub returns-in_default : goal.returns-in_default
returns-in_default c = settle_nothing _ _ _ _ c.in_default.is

pub returns-in_err-row : goal.returns-in_err-row
returns-in_err-row c =
    let o = none_of _ c.in_err-row.ensures.value in
    hands_stop c.from_residual.ensures (rw o.1 (settle_no_row _ _ _ _ c.in-Some.is (sym c.row_at.ensures ∙ o.0)))

pub returns-in_err-run_events : goal.returns-in_err-run_events
returns-in_err-run_events c =
    hands_stop c.from_residual-in_err-run_events.ensures
    (settle_walked _ _ _ _ c.in-Some.is (sym c.row_at.ensures ∙ some_of _ _ c.in_ok-row.ensures.value) c.in_err-run_events.ensures)

pub returns-in_err-ok_or : goal.returns-in_err-ok_or
returns-in_err-ok_or c =
    let o = none_of _ c.in_err-ok_or.ensures.value in
    hands_stop c.from_residual-in_err-ok_or.ensures
    (rw o.1 (settle_past _ _ _ _ c.in-Some.is (sym c.row_at.ensures ∙ some_of _ _ c.in_ok-row.ensures.value) c.in_ok-run_events.ensures (sym c.checked_add.ensures ∙ o.0)))

pub returns : goal.returns
returns c =
    settle_told _ _ _ _ c.in-Some.is (sym c.row_at.ensures ∙ some_of _ _ c.in_ok-row.ensures.value) c.in_ok-run_events.ensures
    (sym c.checked_add.ensures ∙ some_of _ _ c.in_ok-ok_or.ensures.value) c.emit.ensures
