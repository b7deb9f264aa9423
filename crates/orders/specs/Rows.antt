-- The list: its kind of entry and its capacity.
use Rattle.lists.specs.declared.Arr.{Arr}
use Rattle.lists.specs.Lists.{empty}
use Rattle.book.specs.Capacities.{orders_capacity}
use Rattle.book.specs.Entries.{blank_order}
use Rattle.book.specs.declared.VenueOrder.{VenueOrder}

abbrev pub Orders : Type 0
Orders = Arr VenueOrder orders_capacity

abbrev pub empty_orders : Orders
empty_orders = empty orders_capacity blank_order
