-- N2 of document 02 by the names of the events: what is claimed of `filled` in a run's last line. The proof is proofs/Filled.antt.
use Rattle.std.specs.Prelude.{ℕ, zero, suc, min, List, [], ◌++◌, ◌≡◌, take}
use Rattle.numbers.specs.Choice.{pick}
use Rattle.lists.specs.Lists.{total}
use Rattle.book.specs.declared.ExecKind.{ExecKind}
use Rattle.book.specs.declared.ExecKind.TheVariants.{Accepted, Rejected, Canceled, CancelRejected, PartialFill, Fill}
use Rattle.book.specs.declared.config.Config.{Config}
use Rattle.state.specs.declared.KernelEvent.{KernelEvent}
use Rattle.state.specs.declared.KernelEvent.TheVariants as event
use Rattle.state.specs.declared.KernelState.{KernelState}
use Rattle.rules.specs.Calls.{Answer, advance}
use Rattle.day.specs.Replay.{has_more, passed_on, last_of, turns_from}

-- "`last` .. of kind partial and fill"
unfoldable pub trade_lots : ExecKind → ℕ → ℕ
trade_lots Accepted lots = 0
trade_lots Rejected lots = 0
trade_lots Canceled lots = 0
trade_lots CancelRejected lots = 0
trade_lots PartialFill lots = lots
trade_lots Fill lots = lots

-- "over the .. reports": of one that is delivered, and of any other event, nothing
unfoldable pub reported_lots : KernelEvent → ℕ
reported_lots (event.Report r) = trade_lots r.kind r.last
reported_lots (event.Fill f) = 0
reported_lots (event.Delivered r) = 0
reported_lots (event.Observed row at) = 0
reported_lots (event.RowEnd row ts) = 0
reported_lots (event.EndOfData msgs obs) = 0
reported_lots (event.Halted h) = 0
reported_lots (event.DroppedMsg order cancel) = 0
reported_lots (event.Expired order at) = 0
reported_lots (event.DroppedExpiry order) = 0

-- "printed": of each call of a run its first 512 events
unfoldable pub printed_events : ℕ → Config → List ℕ → KernelState → List KernelEvent
printed_events zero c rows s = []
printed_events (suc n) c rows s =
    let a : Answer = advance c rows s in
    take 512 a.events ++ pick (has_more a.state) (printed_events n c rows (passed_on a.state)) []

-- a text that ends with this line
abbrev pub EndsWith : List ℕ → List ℕ → Type 0
EndsWith text line = (before : List ℕ) × (text ≡ before ++ line)

-- the last line of a run, of whatever rows and from whatever state: its `filled` is "the sum of `last` over the printed reports of kind partial and fill", which stays at 2^64 − 1
abbrev pub FilledIsReported : ℕ → Config → List ℕ → KernelState → Type 0
FilledIsReported n c rows s = (end : KernelState) × EndsWith (turns_from n c rows s 0) (last_of end (min (total reported_lots (printed_events n c rows s)) 18446744073709551615))
