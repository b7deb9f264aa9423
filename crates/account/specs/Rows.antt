-- The list: its kind of entry and its capacity.
use Rattle.lists.specs.declared.Arr.{Arr}
use Rattle.lists.specs.Lists.{empty}
use Rattle.book.specs.Capacities.{account_capacity}
use Rattle.book.specs.Entries.{blank_open}
use Rattle.book.specs.declared.OpenOrder.{OpenOrder}

abbrev pub AgentAccount : Type 0
AgentAccount = Arr OpenOrder account_capacity

abbrev pub empty_agent_account : AgentAccount
empty_agent_account = empty account_capacity blank_open
