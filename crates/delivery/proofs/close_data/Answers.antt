-- `delivery::close_data` meets its contract. Assumes nothing.
use mathlib.Core.Path.{sym, ◌∙◌}
use Rattle.reports.proofs.Then.{hands_stop}
use Rattle.delivery.proofs.Deliveries.{msgs_uncounted, observed_uncounted, closed}
use Rattle.delivery.proofs.close_data.Goals as goal

pub returns-in_err-counters : goal.returns-in_err-counters
returns-in_err-counters c =
    hands_stop c.from_residual.ensures (msgs_uncounted _ _ _ _ _ c.emit_dropped.ensures c.clear.ensures c.clear-2.ensures _ c.checked_add-msgs.ensures c.in_err-counters.ensures.value)

pub returns-in_err-counters-2 : goal.returns-in_err-counters-2
returns-in_err-counters-2 c =
    hands_stop c.from_residual-in_err-counters-2.ensures
    (observed_uncounted _ _ _ _ _ c.emit_dropped.ensures c.clear.ensures c.clear-2.ensures _ (sym c.in_ok-counters.ensures.ok_part ∙ c.checked_add-msgs.ensures) _ c.checked_add-obs.ensures c.in_err-counters-2.ensures.value)

pub returns : goal.returns
returns c =
    closed _ _ _ _ _ c.emit_dropped.ensures c.clear.ensures c.clear-2.ensures _ (sym c.in_ok-counters.ensures.ok_part ∙ c.checked_add-msgs.ensures) _ (sym c.in_ok-counters-2.ensures.ok_part ∙ c.checked_add-obs.ensures) c.end.ensures c.emit.ensures
