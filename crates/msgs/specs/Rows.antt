-- The list: its kind of entry and its capacity.
use Rattle.lists.specs.declared.Arr.{Arr}
use Rattle.lists.specs.Lists.{empty}
use Rattle.book.specs.Capacities.{msgs_capacity}
use Rattle.book.specs.Entries.{blank_msg}
use Rattle.book.specs.declared.VenueMsg.{VenueMsg}

abbrev pub Msgs : Type 0
Msgs = Arr VenueMsg msgs_capacity

abbrev pub empty_msgs : Msgs
empty_msgs = empty msgs_capacity blank_msg
