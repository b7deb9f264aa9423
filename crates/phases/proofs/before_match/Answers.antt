-- `phases::before_match` meets its contract, by the laws of `Exits`. Assumes nothing.
use mathlib.Core.Path.{sym, ◌∙◌}
use Rattle.lists.proofs.Cases.{some_of, none_of}
use Rattle.reports.proofs.Then.{hands_stop}
use Rattle.phases.proofs.Exits.{match_nowhere, match_no_row, match_walked, match_halted, match_unseen, match_seen}
use Rattle.phases.proofs.before_match.Goals as goal

pub returns-in_err-index : goal.returns-in_err-index
returns-in_err-index c =
    let o = none_of _ c.in_err-index.ensures.value in
    hands_stop c.from_residual.ensures (rw o.1 (match_nowhere _ _ _ _ o.0))

pub returns-in_err-row : goal.returns-in_err-row
returns-in_err-row c =
    let o = none_of _ c.in_err-row.ensures.value in
    hands_stop c.from_residual-in_err-row.ensures (rw o.1 (match_no_row _ _ _ _ (some_of _ _ c.in_ok-index.ensures.value) (sym c.row_at.ensures ∙ o.0)))

pub returns-in_err-run_events : goal.returns-in_err-run_events
returns-in_err-run_events c =
    hands_stop c.from_residual-in_err-run_events.ensures
    (match_walked _ _ _ _ (some_of _ _ c.in_ok-index.ensures.value) (sym c.row_at.ensures ∙ some_of _ _ c.in_ok-row.ensures.value) c.in_err-run_events.ensures)

pub returns-in_err-match_row : goal.returns-in_err-match_row
returns-in_err-match_row c =
    hands_stop c.from_residual-in_err-match_row.ensures
    (match_halted _ _ _ _ (some_of _ _ c.in_ok-index.ensures.value) (sym c.row_at.ensures ∙ some_of _ _ c.in_ok-row.ensures.value)
    c.in_ok-run_events.ensures c.max-s.ensures c.in_err-match_row.ensures)

pub returns-in_err-queue_observation : goal.returns-in_err-queue_observation
returns-in_err-queue_observation c =
    hands_stop c.from_residual-in_err-queue_observation.ensures
    (match_unseen _ _ _ _ (some_of _ _ c.in_ok-index.ensures.value) (sym c.row_at.ensures ∙ some_of _ _ c.in_ok-row.ensures.value)
    c.in_ok-run_events.ensures c.max-s.ensures c.in_ok-match_row.ensures c.in_err-queue_observation.ensures)

pub returns : goal.returns
returns c =
    match_seen _ _ _ _ (some_of _ _ c.in_ok-index.ensures.value) (sym c.row_at.ensures ∙ some_of _ _ c.in_ok-row.ensures.value)
    c.in_ok-run_events.ensures c.max-s.ensures c.in_ok-match_row.ensures c.in_ok-queue_observation.ensures
