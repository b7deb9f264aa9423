-- The list: its kind of entry and its capacity.
use Rattle.lists.specs.declared.Arr.{Arr}
use Rattle.lists.specs.Lists.{empty}
use Rattle.book.specs.Capacities.{deliveries_capacity}
use Rattle.book.specs.Entries.{blank_delivery}
use Rattle.book.specs.declared.Delivery.{Delivery}

abbrev pub Deliveries : Type 0
Deliveries = Arr Delivery deliveries_capacity

abbrev pub empty_deliveries : Deliveries
empty_deliveries = empty deliveries_capacity blank_delivery
