-- 'Delivery' and 'End of data'.
use Rattle.std.specs.Prelude.{ℕ, zero, suc, ◌+◌, Bool, true, false, List, [], ◌∷◌, map, Option, Some, None}
use Rattle.numbers.specs.Choice.{pick, on_some}
use Rattle.numbers.specs.Words.{fitting}
use Rattle.lists.specs.Lists.{live, found_in, taken_at, popped, store_at, emptied}
use Rattle.book.specs.Capacities.{msgs_capacity, deliveries_capacity, observed_capacity, account_capacity}
use Rattle.book.specs.Entries.{blank_msg, blank_delivery, blank_obs, blank_open, is_open_of}
use Rattle.state.specs.With.{with_control, with_msgs, with_deliveries, with_observed, with_agent, with_account, with_counters, control_phase, control_status, agent_pos, agent_delivered_fills, agent_delivered_local_rejects, counters_eof_dropped_msgs, counters_eof_dropped_obs}
use Rattle.book.specs.declared.Delivery.{Delivery}
use Rattle.book.specs.declared.ExecKind.{ExecKind}
use Rattle.book.specs.declared.ExecKind.TheVariants as exec
use Rattle.book.specs.declared.MsgKind.{MsgKind}
use Rattle.book.specs.declared.MsgKind.TheVariants.{Cancel, Activate, Expire}
use Rattle.book.specs.declared.Origin.{Origin}
use Rattle.book.specs.declared.Origin.TheVariants.{Local, Venue}
use Rattle.book.specs.declared.ReportRec.{ReportRec}
use Rattle.book.specs.declared.VenueMsg.{VenueMsg}
use Rattle.state.specs.declared.HaltReason.TheVariants.{LedgerOverflow, CounterOverflow}
use Rattle.state.specs.declared.KernelEvent.{KernelEvent}
use Rattle.state.specs.declared.KernelEvent.TheVariants.{Delivered, EndOfData, DroppedMsg, DroppedExpiry}
use Rattle.state.specs.declared.KernelState.{KernelState}
use Rattle.state.specs.declared.Phase.TheVariants as phase
use Rattle.state.specs.declared.Status.TheVariants as status
use Rattle.rules.specs.Run.{Run, ended, ran_to, halt_at, raised, after, and_then, taking}
use Rattle.rules.specs.Matching.{moved}
use Rattle.book.specs.declared.FillRec.{FillRec}
use Rattle.account.specs.Rows.{AgentAccount}

-- ---- the agent
-- "delivery, end counts: counter past 64 bits: 7"
unfoldable pub count_fill : KernelState → Run
count_fill s =
    on_some (fitting (s.agent.delivered_fills + 1))
    (λ n. ran_to (with_agent s (agent_delivered_fills s.agent n)))
    (halt_at CounterOverflow s)

-- "moves the agent's position by the fill's record and counts the fill (neither without a record)";
-- "delivery, after its event: fill above 2^63 − 1, or agent position out of range: 5"
abbrev pub move_agent : Option FillRec → KernelState → Run
move_agent None s = ran_to s
move_agent (Some f) s =
    on_some (moved f.side s.agent.pos f.qty)
    (λ p. count_fill (with_agent s (agent_pos s.agent p)))
    (halt_at LedgerOverflow s)

-- "origin Local"
abbrev pub is_local : Origin → Bool
is_local Local = true
is_local Venue = false

-- "a Rejected"
abbrev pub is_rejected : ExecKind → Bool
is_rejected exec.Accepted = false
is_rejected exec.Rejected = true
is_rejected exec.Canceled = false
is_rejected exec.CancelRejected = false
is_rejected exec.PartialFill = false
is_rejected exec.Fill = false

-- "counts a Rejected of origin Local"
unfoldable pub count_reject : ReportRec → KernelState → Run
count_reject r s =
    pick (is_rejected r.kind)
    (pick (is_local r.origin)
    (on_some (fitting (s.agent.delivered_local_rejects + 1))
    (λ n. ran_to (with_agent s (agent_delivered_local_rejects s.agent n)))
    (halt_at CounterOverflow s))
    (ran_to s))
    (ran_to s)

-- ---- the account
-- what a report does to its order's entry: nothing, or it closes it, or marks it awaiting
pub data Effect : Type 0 where
  stands : Effect
  closes : Effect
  awaits : Effect

-- "CancelRejected or a local Rejected closes it; Canceled, Fill or a venue Rejected too, unless cancel_pending, which marks it awaiting."
abbrev pub effect : ExecKind → Origin → Bool → Effect
effect exec.Accepted w pending = stands
effect exec.Rejected Local pending = closes
effect exec.Rejected Venue pending = pick pending awaits closes
effect exec.Canceled w pending = pick pending awaits closes
effect exec.CancelRejected w pending = closes
effect exec.PartialFill w pending = stands
effect exec.Fill w pending = pick pending awaits closes

-- the account with the entry at place i so treated
abbrev pub affected : Effect → ℕ → ℕ → AgentAccount → AgentAccount
affected stands id i a = a
affected closes id i a = (taken_at account_capacity blank_open i a).list
affected awaits id i a = (store_at account_capacity i (record { order_id = id; awaiting_cancel_outcome = true }) a).list

-- "then turns to the first account entry of that order"
unfoldable pub on_delivery : ReportRec → AgentAccount → AgentAccount
on_delivery r a =
    on_some (found_in (is_open_of r.order_id) (live account_capacity a))
    (λ i. affected (effect r.kind r.origin r.cancel_pending) r.order_id i a)
    a

-- ---- "Delivery writes delivered, ..": d is no more in the list
abbrev pub deliver : Delivery → KernelState → Run
deliver d s =
    and_then (raised (Delivered d.report) s) λ t.
    and_then (move_agent d.fill t) λ u.
    and_then (count_reject d.report u) λ v.
    ran_to (with_account v (on_delivery d.report v.account))

-- the first delivery, if there is one
unfoldable pub deliver_next : KernelState → Run
deliver_next s = taking (popped deliveries_capacity blank_delivery s.deliveries) (λ d l. deliver d (with_deliveries s l)) (ran_to s)

-- ---- "End of data delivers all, writes each dropped message, empties messages and observations, adds to the two counters, sets its status and Terminal, writes event 6; the clock stands."
-- n deliveries
unfoldable pub deliver_all : ℕ → KernelState → Run
deliver_all zero s = ran_to s
deliver_all (suc n) s = and_then (deliver_next s) (deliver_all n)

-- "8 dropped message (order, cancel)"; "10 dropped expiry (order)"
abbrev pub dropped_by : MsgKind → KernelEvent
dropped_by (Cancel id) = DroppedMsg id true
dropped_by (Activate o life) = DroppedMsg o.id false
dropped_by (Expire id) = DroppedExpiry id

-- the same of a message
abbrev pub dropped_event : VenueMsg → KernelEvent
dropped_event m = dropped_by m.kind

-- "empties messages and observations"
unfoldable pub empty_queues : KernelState → KernelState
empty_queues s = with_observed (with_msgs s (emptied msgs_capacity blank_msg s.msgs)) (emptied observed_capacity blank_obs s.observed)

-- s with no delivery left, and its counts of messages and observations; the counters are tested in order, the lists empty already
unfoldable pub close_data : KernelState → Run
close_data s =
    let dropped : List VenueMsg = live msgs_capacity s.msgs in
    let t : KernelState = empty_queues s in
    after (map dropped_event dropped)
    (on_some (fitting (t.counters.eof_dropped_msgs + s.msgs.count))
    (λ m. let u : KernelState = with_counters t (counters_eof_dropped_msgs t.counters m) in
    on_some (fitting (u.counters.eof_dropped_obs + s.observed.count))
    (λ n. record {
      outcome = ended dropped;
      state = with_control (with_counters u (counters_eof_dropped_obs u.counters n)) (control_status (control_phase u.control phase.Terminal) status.EndOfData);
      events = EndOfData s.msgs.count s.observed.count ∷ [];
    })
    (halt_at CounterOverflow u))
    (halt_at CounterOverflow t))

-- "delivers all", then the rest
unfoldable pub end_of_data : KernelState → Run
end_of_data s = and_then (deliver_all s.deliveries.count s) close_data
