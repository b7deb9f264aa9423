-- 'Messages': the gate's release, and what an activation, a cancel and an expiry do.
use Rattle.std.specs.Prelude.{ℕ, ◌+◌, ◌-◌, Bool, false, ◌&&◌, ltb, Option, Some, None}
use Rattle.numbers.specs.Choice.{pick, on_some}
use Rattle.numbers.specs.Words.{fits, fitting}
use Rattle.lists.specs.Lists.{live, found_in, pushed, put_before, taken_at, popped}
use Rattle.book.specs.Capacities.{orders_capacity, msgs_capacity}
use Rattle.book.specs.Entries.{blank_order, blank_msg, on_side, remaining, in_state, is_open, has_id, id_above, is_later, is_activation, is_expiry}
use Rattle.state.specs.With.{with_seqs, with_orders, with_msgs, with_awaiting, with_gate, seqs_next_msg_seq, gate_live_buy_lots, gate_live_sell_lots}
use Rattle.book.specs.declared.ExecKind.TheVariants as exec
use Rattle.book.specs.declared.MsgKind.{MsgKind}
use Rattle.book.specs.declared.MsgKind.TheVariants.{Cancel, Activate, Expire}
use Rattle.book.specs.declared.OrderState.TheVariants as order
use Rattle.book.specs.declared.Side.{Side}
use Rattle.book.specs.declared.VenueOrder.{VenueOrder}
use Rattle.book.specs.declared.config.Config.{Config}
use Rattle.state.specs.declared.GateState.{GateState}
use Rattle.state.specs.declared.HaltReason.TheVariants.{TimeOverflow, CounterOverflow}
use Rattle.state.specs.declared.KernelEvent.TheVariants.{Expired}
use Rattle.state.specs.declared.KernelState.{KernelState}
use Rattle.rules.specs.Run.{Run, ran_to, halt_at, raised, and_then, putting, taking}
use Rattle.rules.specs.Report.{stamp, queue_delivery, report_on}

-- ---- the gate's live lots
abbrev pub live_lots : Side → GateState → ℕ
live_lots d g = on_side d g.live_buy_lots g.live_sell_lots

-- n lots of a side are live no more: none where they are "lots above live"
unfoldable pub released : Side → ℕ → GateState → Option GateState
released d n g =
    pick (ltb (live_lots d g) n) None
    (Some (on_side d (gate_live_buy_lots g (g.live_buy_lots - n)) (gate_live_sell_lots g (g.live_sell_lots - n))))

-- "Remaining lots .. are what is released"; "release: lots above live: 7"
unfoldable pub release : VenueOrder → KernelState → Run
release o s =
    on_some (released o.side (remaining o) s.gate)
    (λ g. ran_to (with_gate s g))
    (halt_at CounterOverflow s)

-- ---- the lists of orders and messages
-- "Awaiting is ordered by id, an equal id after"
unfoldable pub await : VenueOrder → KernelState → Run
await o s = putting (put_before orders_capacity (id_above o.id) o s.awaiting) (with_awaiting s) s

-- "to awaiting if a cancel is in flight (marked)"
unfoldable pub await_marked : VenueOrder → KernelState → Run
await_marked o s = pick o.cancel_inflight (await o s) (ran_to s)

-- booked: last among the orders
unfoldable pub book : VenueOrder → KernelState → Run
book o s = putting (pushed orders_capacity o s.orders) (with_orders s) s

-- "a new one takes `next_msg_seq`, which rises, and goes before the first with a greater pair, else last"
unfoldable pub schedule : ℕ → MsgKind → KernelState → Run
schedule at k s =
    let seq : ℕ = s.seqs.next_msg_seq in
    on_some (fitting (seq + 1))
    (λ n. let t : KernelState = with_seqs s (seqs_next_msg_seq s.seqs n) in
    putting (put_before msgs_capacity (is_later at seq) (record { eff_ns = at; seq = seq; kind = k }) t.msgs) (with_msgs t) t)
    (halt_at CounterOverflow s)

-- without the first expiry of that order
unfoldable pub remove_expiry : ℕ → KernelState → KernelState
remove_expiry id s =
    on_some (found_in (is_expiry id) (live msgs_capacity s.msgs))
    (λ i. with_msgs s (taken_at msgs_capacity blank_msg i s.msgs).list)
    s

-- ---- "Activate": s is the state at its stamp, t after it
-- "valid if price and qty are above 0"
abbrev pub valid : VenueOrder → Bool
valid o = ltb 0 o.price && ltb 0 o.qty

-- with a life "its expiry queued at `active_after_ns` + life"
unfoldable pub schedule_expiry : Option ℕ → ℕ → KernelState → Run
schedule_expiry expiry id s = on_some expiry (λ at. schedule at (Expire id) s) (ran_to s)

-- "Valid: Active, Accepted report, booked, then .. its expiry"
unfoldable pub accept : Config → VenueOrder → Option ℕ → KernelState → KernelState → Run
accept c o expiry s t =
    and_then (queue_delivery c (report_on s o exec.Accepted false 0) None t) λ u.
    and_then (book o u) (schedule_expiry expiry o.id)

-- "Invalid: lots released, Rejected report, and to awaiting if .. marked"
unfoldable pub reject : Config → VenueOrder → KernelState → KernelState → Run
reject c o s t =
    and_then (release o t) λ u.
    and_then (queue_delivery c (report_on s o exec.Rejected o.cancel_inflight 0) None u)
    (await_marked o)

-- "Stamped."
unfoldable pub activate : Config → VenueOrder → Option ℕ → KernelState → Run
activate c o expiry s =
    and_then (stamp s) λ t.
    pick (valid o) (accept c (in_state o order.Active) expiry s t) (reject c (in_state o order.Rejected) s t)

-- "before activation leaves, order valid, life set: expiry time past 64 bits 6; the same, next: `next_msg_seq` at maximum 7".
-- s is the state with the message still first, t without it
unfoldable pub activation : Config → VenueOrder → ℕ → KernelState → KernelState → Run
activation c o life s t =
    pick (valid o && ltb 0 life)
    (on_some (fitting (o.active_after_ns + life))
    (λ at. pick (fits (s.seqs.next_msg_seq + 1)) (activate c o (Some at) t) (halt_at CounterOverflow s))
    (halt_at TimeOverflow s))
    (activate c o None t)

-- ---- "Cancel": "stamped always"; s is the state at its stamp, t after it
-- "Booked, non-terminal: removed, released, its expiry removed, Canceled."
unfoldable pub cancel_booked : Config → KernelState → ℕ → KernelState → Run
cancel_booked c s i t =
    taking (taken_at orders_capacity blank_order i t.orders)
    (λ o l. and_then (release o (with_orders t l)) λ u.
    queue_delivery c (report_on s o exec.Canceled false 0) None (remove_expiry o.id u))
    (ran_to t)

-- k of the order that an activation carries
abbrev pub on_activation : MsgKind → (VenueOrder → Run) → Run → Run
on_activation (Cancel i) k z = z
on_activation (Activate o life) k z = k o
on_activation (Expire i) k z = z

-- "Else a pending activation: the same without expiry."
unfoldable pub cancel_activation : Config → KernelState → ℕ → KernelState → Run
cancel_activation c s i t =
    taking (taken_at msgs_capacity blank_msg i t.msgs)
    (λ m l. let u : KernelState = with_msgs t l in
    on_activation m.kind
    (λ o. and_then (release o u) (queue_delivery c (report_on s o exec.Canceled false 0) None))
    (ran_to u))
    (ran_to t)

-- "Else awaiting: removed, CancelRejected."
unfoldable pub cancel_awaiting : Config → KernelState → ℕ → KernelState → Run
cancel_awaiting c s i t =
    taking (taken_at orders_capacity blank_order i t.awaiting)
    (λ o l. queue_delivery c (report_on s o exec.CancelRejected false 0) None (with_awaiting t l))
    (ran_to t)

-- "Cancel, stamped always": booked, else pending, else awaiting; else nothing more
unfoldable pub cancel : Config → ℕ → KernelState → Run
cancel c id s =
    and_then (stamp s) λ t.
    on_some (found_in (is_open id) (live orders_capacity t.orders)) (λ i. cancel_booked c s i t)
    (on_some (found_in (is_activation id) (live msgs_capacity t.msgs)) (λ i. cancel_activation c s i t)
    (on_some (found_in (has_id id) (live orders_capacity t.awaiting)) (λ i. cancel_awaiting c s i t)
    (ran_to t)))

-- ---- "Expire": "else stamped, removed, released, expired event, Canceled report, awaiting if marked"; s is the state at its stamp, t after it
unfoldable pub expire_booked : Config → KernelState → ℕ → KernelState → Run
expire_booked c s i t =
    taking (taken_at orders_capacity blank_order i t.orders)
    (λ o l. and_then (release o (with_orders t l)) λ u.
    and_then (raised (Expired o.id u.clock.now_ns) u) λ v.
    and_then (queue_delivery c (report_on s o exec.Canceled o.cancel_inflight 0) None v)
    (await_marked (in_state o order.Canceled)))
    (ran_to t)

-- "nothing if not booked and non-terminal"
unfoldable pub expire : Config → ℕ → KernelState → Run
expire c id s =
    on_some (found_in (is_open id) (live orders_capacity s.orders))
    (λ i. and_then (stamp s) (expire_booked c s i))
    (ran_to s)

-- ---- "The first leaves, then acts."
abbrev pub acts : Config → MsgKind → KernelState → KernelState → Run
acts c (Cancel id) s t = cancel c id t
acts c (Activate o life) s t = activation c o life s t
acts c (Expire id) s t = expire c id t

-- "A list with no first entry ends that step with nothing done."
unfoldable pub apply_next_msg : Config → KernelState → Run
apply_next_msg c s =
    taking (popped msgs_capacity blank_msg s.msgs)
    (λ m l. acts c m.kind s (with_msgs s l))
    (ran_to s)
