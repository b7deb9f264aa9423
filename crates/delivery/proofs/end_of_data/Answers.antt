-- `delivery::end_of_data` meets its contract. Assumes nothing.
use Rattle.rules.specs.Delivery.{end_of_data}
use Rattle.reports.proofs.Then.{hands_stop, then_on, then_stop}
use Rattle.delivery.proofs.end_of_data.Goals as goal

pub returns-in_err-deliver_all : goal.returns-in_err-deliver_all
unfolding end_of_data
returns-in_err-deliver_all c = hands_stop c.from_residual.ensures (then_stop _ _ _ c.in_err-deliver_all.ensures)

pub returns : goal.returns
unfolding end_of_data
returns c = then_on _ _ _ c.in_ok-deliver_all.ensures c.close_data.ensures
