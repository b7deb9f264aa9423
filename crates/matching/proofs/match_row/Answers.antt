-- `matching::match_row` meets its contract. Assumes nothing.
use Rattle.reports.proofs.Then.{hands_on}
use Rattle.matching.proofs.Passes.{row_overflow, row_stop, row_swept}
use Rattle.matching.proofs.match_row.Goals as goal

pub returns-in_err-mid2 : goal.returns-in_err-mid2
returns-in_err-mid2 c = hands_on _ c.from_residual.ensures (row_overflow _ _ _ _ c.checked_add.ensures c.in_err-mid2.ensures.value)

pub returns-in_err-match_orders : goal.returns-in_err-match_orders
returns-in_err-match_orders c =
    hands_on _ c.from_residual-in_err-match_orders.ensures (row_stop _ _ _ _ c.checked_add.ensures c.in_ok-mid2.ensures.ok_part c.mark.ensures c.in_err-match_orders.ensures)

pub returns : goal.returns
returns c = row_swept _ _ _ _ c.checked_add.ensures c.in_ok-mid2.ensures.ok_part c.mark.ensures c.sweep.result c.in_ok-match_orders.ensures c.sweep.ensures
