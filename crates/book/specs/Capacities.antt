-- "Capacities: orders, awaiting and account 8, messages and observations 16, deliveries 24, as in the oracle."
use Rattle.std.specs.Prelude.{ℕ}

-- of orders, and of awaiting
abbrev pub orders_capacity : ℕ
orders_capacity = 8

-- of messages
abbrev pub msgs_capacity : ℕ
msgs_capacity = 16

-- of deliveries
abbrev pub deliveries_capacity : ℕ
deliveries_capacity = 24

-- of observations
abbrev pub observed_capacity : ℕ
observed_capacity = 16

-- of the account's open orders
abbrev pub account_capacity : ℕ
account_capacity = 8
