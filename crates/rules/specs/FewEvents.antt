-- How many events one call can raise, whatever its rows: a claim of our own beside N8. The proof is proofs/HowFar.antt.
use Rattle.std.specs.Prelude.{ℕ, ◌+◌, ◌-◌, ◌*◌, ◌≤◌, ◌<◌, List, ◌≡◌, length}
use Rattle.lists.specs.Lists.{below, total}
use Rattle.book.specs.declared.MsgKind.{MsgKind}
use Rattle.book.specs.declared.MsgKind.TheVariants.{Cancel, Activate, Expire}
use Rattle.book.specs.declared.VenueMsg.{VenueMsg}
use Rattle.book.specs.declared.config.Config.{Config}
use Rattle.state.specs.declared.KernelState.{KernelState}
use Rattle.rules.specs.Calls.{advance}
use Rattle.msgs.specs.Rows.{Msgs}

-- what a message can raise beyond its report and the delivery of it: an expiry its own event, an activation all that its order's expiry raises
abbrev pub raisable_kind : MsgKind → ℕ
raisable_kind (Cancel id) = 0
raisable_kind (Activate o life) = 3
raisable_kind (Expire id) = 1

-- the same of a message
abbrev pub raisable : VenueMsg → ℕ
raisable m = raisable_kind m.kind

-- the most events that queued messages can raise: 2 a cancel, 3 an expiry, 5 an activation
abbrev pub msgs_events : Msgs → ℕ
msgs_events l = 2 * l.count + total raisable (below l)

-- the same with the deliveries, each of them an event
abbrev pub queued_events : KernelState → ℕ
queued_events s = msgs_events s.msgs + s.deliveries.count

pub record FewEvents (c : Config) (rows : List ℕ) (s : KernelState) : Type 0 where
  -- those that the queues can raise; 25 a row, the fills of 8 orders, their reports and deliveries, and its end; 18 for the row's end before them, and for the last row, which finds no room for its observation: 16 fills and reports, and the halt
  pub by_queues : length (advance c rows s).events ≤ queued_events s + 25 * (16 - s.observed.count) + 18
  -- with 24 deliveries and no observation at entry
  pub by_messages : length (advance c rows s).events ≤ msgs_events s.msgs + 442
  -- with 16 activations besides: so from no state more than
  pub most : length (advance c rows s).events ≤ 522
  -- more than the 512 records of replay's log, only where no observation is queued at entry and the queues can raise more than 94
  pub beyond : 512 < length (advance c rows s).events → (s.observed.count ≡ 0) × (94 < queued_events s)
  -- and its messages can raise no more after the call than before it
  pub lighter : msgs_events (advance c rows s).state.msgs ≤ msgs_events s.msgs
