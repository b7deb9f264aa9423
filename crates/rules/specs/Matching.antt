-- 'Matching': a row over the booked orders, and the terminal orders that leave after it.
use Rattle.std.specs.Prelude.{ℕ, zero, suc, ◌+◌, ◌-◌, ◌*◌, ◌/◌, Bool, false, ◌&&◌, ltb, leb, eqb, Option, Some, None}
use Rattle.numbers.specs.Choice.{pick, on_some}
use Rattle.numbers.specs.Words.{fits, fitting}
use Rattle.numbers.specs.Position.{raised_by, lowered_by}
use Rattle.numbers.specs.declared.position.Position.{Position}
use Rattle.lists.specs.Lists.{entry_at, taken_at, store_at}
use Rattle.book.specs.Capacities.{orders_capacity}
use Rattle.book.specs.Entries.{blank_order, on_side, remaining, is_active, is_terminal}
use Rattle.state.specs.With.{with_seqs, with_orders, with_gate, with_counters, seqs_next_exec_id, gate_venue_pos, gate_mark2, counters_venue_fills}
use Rattle.book.specs.declared.ExecKind.{ExecKind}
use Rattle.book.specs.declared.ExecKind.TheVariants as exec
use Rattle.book.specs.declared.FillRec.{FillRec}
use Rattle.book.specs.declared.OrderState.TheVariants as order
use Rattle.book.specs.declared.ReportRec.{ReportRec}
use Rattle.book.specs.declared.Side.{Side}
use Rattle.book.specs.declared.VenueOrder.{VenueOrder}
use Rattle.book.specs.declared.config.Config.{Config}
use Rattle.book.specs.declared.config.FillMode.{FillMode}
use Rattle.book.specs.declared.config.FillMode.TheVariants.{Immediate, QueuePosition}
use Rattle.book.specs.declared.config.KernelTick.{KernelTick}
use Rattle.state.specs.declared.GateState.{GateState}
use Rattle.state.specs.declared.HaltReason.TheVariants.{LedgerOverflow, CounterOverflow}
use Rattle.state.specs.declared.KernelEvent.TheVariants.{Fill}
use Rattle.state.specs.declared.KernelState.{KernelState}
use Rattle.rules.specs.Run.{Run, ran_to, halt_at, raised, and_then, taking}
use Rattle.rules.specs.Report.{stamp, queue_delivery, report_on}
use Rattle.rules.specs.Messages.{released, remove_expiry, await_marked}
use Rattle.orders.specs.Rows.{Orders}

-- ---- which orders match
-- "matches if ask ≤ price (Buy) or bid ≥ price (Sell)"
abbrev pub crosses : KernelTick → VenueOrder → Bool
crosses row o = on_side o.side (leb row.ask o.price) (leb o.price row.bid)

-- "an Active order with row time above `active_after_ns`, price above 0 and lots remaining"
unfoldable pub matches : KernelTick → VenueOrder → Bool
matches row o =
    is_active o.state && ltb o.active_after_ns row.ts_ns && ltb 0 o.price && ltb 0 (remaining o) && crosses row o

-- ---- how many lots
-- "Ahead is 0 if strictly through the price, else ask lots (Buy) or bid lots (Sell)."
unfoldable pub ahead : KernelTick → VenueOrder → ℕ
ahead row o =
    on_side o.side
    (pick (ltb row.ask o.price) 0 row.ask_lots)
    (pick (ltb o.price row.bid) 0 row.bid_lots)

-- "At most 0: none. At least qty: all remaining. Else cumulative less filled, not below 0."
unfoldable pub lots_of : ℕ → VenueOrder → ℕ
lots_of cumulative o = pick (eqb cumulative 0) 0 (pick (leb o.qty cumulative) (remaining o) (cumulative - o.filled))

-- "ms = floor((row time − active_after) / 1,000,000)"; "`per_ms` 0" is the halt 7, here none;
-- "Cumulative = floor(`rate_lots` × ms / `per_ms`) − ahead, exact past 64 bits", and a cumulative below 0 is as one of 0
unfoldable pub queue_fill_lots : ℕ → ℕ → KernelTick → VenueOrder → Option ℕ
queue_fill_lots rate per row o =
    let ms : ℕ = (row.ts_ns - o.active_after_ns) / 1000000 in
    pick (eqb per 0) None (Some (lots_of (rate * ms / per - ahead row o) o))

-- "Immediate gives all remaining." The minimum that a mode can carry is no part of the rule (N11)
abbrev pub fill_lots : FillMode → KernelTick → VenueOrder → Option ℕ
fill_lots Immediate row o = Some (remaining o)
fill_lots (QueuePosition rate per _) row o = queue_fill_lots rate per row o

-- ---- a fill of n lots of the order o at place i: s is the state at its stamp
-- a buy adds to a position, a sell takes away
abbrev pub moved : Side → Position → ℕ → Option Position
moved d p n = on_side d (raised_by p n) (lowered_by p n)

-- the gate after the fill: none where "lots above live; fill above 2^63 − 1; position out of range"
unfoldable pub gate_filled : Side → ℕ → GateState → Option GateState
gate_filled d n g = on_some (moved d g.venue_pos n) (λ p. released d n (gate_venue_pos g p)) None

-- an order is Filled where nothing remains
unfoldable pub filled_by : ℕ → VenueOrder → VenueOrder
filled_by n o = record {
  id = o.id;
  side = o.side;
  price = o.price;
  qty = o.qty;
  filled = o.filled + n;
  state = pick (eqb n (remaining o)) order.Filled o.state;
  active_after_ns = o.active_after_ns;
  cancel_inflight = o.cancel_inflight;
}

-- the record of a fill by its time and its exec id
abbrev pub record_at : ℕ → ℕ → VenueOrder → ℕ → FillRec
record_at now exec o n = record { ts_ns = now; exec_id = exec; order_id = o.id; side = o.side; price = o.price; qty = n }

-- both as they stand at the stamp
abbrev pub fill_record : KernelState → VenueOrder → ℕ → FillRec
fill_record s = record_at s.clock.now_ns s.seqs.next_exec_id

-- a fill of all that remained, or a partial one
abbrev pub fill_kind : ℕ → VenueOrder → ExecKind
fill_kind n o = pick (eqb n (remaining o)) exec.Fill exec.PartialFill

-- "last the fill"; "cancel_pending is the order's in-flight mark in .. fills"
unfoldable pub fill_report : KernelState → VenueOrder → ℕ → ReportRec
fill_report s o n = report_on s (filled_by n o) (fill_kind n o) o.cancel_inflight n

-- ".. `venue_fills`, fill event ..": u has the gate and the exec id written
unfoldable pub fill_counted : VenueOrder → ℕ → KernelState → KernelState → Run
fill_counted o n s u =
    on_some (fitting (u.counters.venue_fills + 1))
    (λ k. raised (Fill (fill_record s o n)) (with_counters u (counters_venue_fills u.counters k)))
    (halt_at CounterOverflow u)

-- "After a fill: stamp; gate and exec id, written only when both and the doubled price have passed; .."
unfoldable pub fill_event : VenueOrder → ℕ → KernelState → Run
fill_event o n s =
    and_then (stamp s) λ t.
    on_some (gate_filled o.side n t.gate)
    (λ g. pick (fits (o.price * 2))
    (on_some (fitting (t.seqs.next_exec_id + 1))
    (λ e. fill_counted o n s (with_seqs (with_gate t g) (seqs_next_exec_id t.seqs e)))
    (halt_at CounterOverflow t))
    (halt_at LedgerOverflow t))
    (halt_at CounterOverflow t)

-- ".. order stored, report"
unfoldable pub fill_at : Config → ℕ → VenueOrder → ℕ → KernelState → Run
fill_at c i o n s =
    and_then (fill_event o n s) λ t.
    queue_delivery c (fill_report s o n) (Some (fill_record s o n)) (with_orders t (store_at orders_capacity i (filled_by n o) t.orders).list)

-- ---- the pass over the orders
-- what a row fills at a place: nothing, so many lots of the order there, or the queue rule fails
pub data Fills : Type 0 where
  no_fill : Fills
  fills : VenueOrder → ℕ → Fills
  fails : Fills

-- "A fill of 0 does nothing."
unfoldable pub fills_of : FillMode → KernelTick → VenueOrder → Fills
fills_of mode row o =
    pick (matches row o)
    (on_some (fill_lots mode row o) (λ n. pick (eqb n 0) no_fill (fills o n)) fails)
    no_fill

-- no order at the place: nothing
unfoldable pub fills_at : FillMode → KernelTick → ℕ → Orders → Fills
fills_at mode row i os = on_some (entry_at orders_capacity blank_order i os) (fills_of mode row) no_fill

-- "queue rule: `per_ms` 0: 7"
abbrev pub filling : Config → ℕ → KernelState → Fills → Run
filling c i s no_fill = ran_to s
filling c i s (fills o n) = fill_at c i o n s
filling c i s fails = halt_at CounterOverflow s

-- the row at one place
unfoldable pub match_at : Config → KernelTick → ℕ → KernelState → Run
match_at c row i s = filling c i s (fills_at c.fill row i s.orders)

-- "In list order": k orders from place i on
unfoldable pub match_from : Config → KernelTick → ℕ → ℕ → KernelState → Run
match_from c row zero i s = ran_to s
match_from c row (suc k) i s = and_then (match_at c row i s) (match_from c row k (i + 1))

-- ---- "Terminal orders (Filled, Canceled, Rejected) leave after the last one, with their expiry, to awaiting if marked."
unfoldable pub leave : ℕ → KernelState → Run
leave i s =
    taking (taken_at orders_capacity blank_order i s.orders)
    (λ o l. await_marked o (remove_expiry o.id (with_orders s l)))
    (ran_to s)

-- whether a terminal order stands at place i
unfoldable pub terminal_at : ℕ → KernelState → Bool
terminal_at i s = on_some (entry_at orders_capacity blank_order i s.orders) (λ o. is_terminal o.state) false

-- k looks from place i on: where one left, the next stands at the same place
unfoldable pub sweep_from : ℕ → ℕ → KernelState → Run
sweep_from zero i s = ran_to s
sweep_from (suc k) i s =
    and_then (pick (terminal_at i s) (leave i s) (ran_to s))
    (sweep_from k (pick (terminal_at i s) i (i + 1)))

-- a look for each order
unfoldable pub sweep : KernelState → Run
sweep s = sweep_from s.orders.count 0 s

-- "`mark2` becomes bid + ask if above 0."
unfoldable pub gate_marked : ℕ → GateState → GateState
gate_marked mid2 g = pick (eqb mid2 0) g (gate_mark2 g (Some mid2))

-- "match, row end: bid + ask past 64 bits: 5"
unfoldable pub match_row : Config → KernelTick → KernelState → Run
match_row c row s =
    on_some (fitting (row.bid + row.ask))
    (λ mid2. and_then (match_from c row s.orders.count 0 (with_gate s (gate_marked mid2 s.gate))) sweep)
    (halt_at LedgerOverflow s)
