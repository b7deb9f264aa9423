-- The list: its kind of entry and its capacity.
use Rattle.lists.specs.declared.Arr.{Arr}
use Rattle.lists.specs.Lists.{empty}
use Rattle.book.specs.Capacities.{observed_capacity}
use Rattle.book.specs.Entries.{blank_obs}
use Rattle.book.specs.declared.ObsEntry.{ObsEntry}

abbrev pub Observed : Type 0
Observed = Arr ObsEntry observed_capacity

abbrev pub empty_observed : Observed
empty_observed = empty observed_capacity blank_obs
