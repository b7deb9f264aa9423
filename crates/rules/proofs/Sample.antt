-- Document 01's sample run, of the replay program: its start, that the definitions give its eight events, and that the theorem of conservation speaks of it.
-- Assumes nothing.
use Rattle.std.specs.Prelude.{None}
use Prim.Native.Nat.{ℕ, ◌+◌}
use mathlib.Core.Bool.{false}
use mathlib.Core.List.{List, [], ◌∷◌, ◌++◌}
use mathlib.Core.Path.{◌≡◌, refl}
use lib.IntN.{pos}
use lib.ListN.{replicate}
use Rattle.numbers.specs.Choice.{pick, on_some}
use Rattle.numbers.specs.Words.{fits, fitting}
use Rattle.numbers.specs.Position.{ranged, raised_by, lowered_by}
use Rattle.lists.specs.Lists.{live, insert_at, remove_at, before, found_in, placed, without, put_at, taken_at, entry_at, store_at, emptied, total}
use Rattle.book.specs.Entries.{blank_msg, blank_open, on_side}
use Rattle.book.specs.declared.ExecKind.{ExecKind}
use Rattle.book.specs.declared.ExecKind.TheVariants as exec
use Rattle.book.specs.declared.MsgKind.TheVariants.{Activate}
use Rattle.book.specs.declared.OrderState.TheVariants as order
use Rattle.book.specs.declared.Origin.TheVariants.{Venue}
use Rattle.book.specs.declared.ReportRec.{ReportRec}
use Rattle.book.specs.declared.Side.{Side}
use Rattle.book.specs.declared.Side.TheVariants.{Buy, Sell}
use Rattle.book.specs.declared.VenueOrder.{VenueOrder}
use Rattle.book.specs.declared.config.Config.{Config}
use Rattle.book.specs.declared.config.FillMode.TheVariants.{Immediate}
use Rattle.state.specs.declared.KernelEvent.{KernelEvent}
use Rattle.state.specs.declared.KernelEvent.TheVariants.{Report, Fill, Delivered, Observed, RowEnd, EndOfData}
use Rattle.state.specs.declared.KernelState.{KernelState}
use Rattle.state.specs.declared.Phase.TheVariants.{ObsQueued}
use Rattle.state.specs.declared.Status.TheVariants.{Running}
use Rattle.rules.specs.Run.{and_then, putting, taking, iter}
use Rattle.rules.specs.Generator.{next_state, output, draw}
use Rattle.rules.specs.Report.{stamp, delay_ns, under_ceiling, delayed_time, delay, delayed, push_delivery, reported, queue_delivery}
use Rattle.rules.specs.Messages.{live_lots, released, release, await, await_marked, book, schedule, remove_expiry, schedule_expiry, accept, reject, activate, activation, cancel_booked, cancel_activation, cancel_awaiting, cancel, expire_booked, expire, apply_next_msg}
use Rattle.rules.specs.Matching.{matches, ahead, lots_of, queue_fill_lots, gate_filled, filled_by, fill_report, fill_counted, fill_event, fill_at, fills_of, fills_at, match_at, match_from, leave, terminal_at, sweep_from, sweep, gate_marked, match_row}
use Rattle.rules.specs.Delivery.{count_fill, count_reject, on_delivery, deliver_next, deliver_all, empty_queues, close_data, end_of_data}
use Rattle.rules.specs.Events.{pop_observation, due_by, next_msg, next_delivery, next_observation, sooner, next_of, event_turn, weight, run_events}
use Rattle.rules.specs.Phases.{row_at, queue_observation, match_phase, before_match, settle_row, settle, next_row, obs_queued, phase_turn, turns, phases}
use Rattle.rules.specs.Calls.{ends, Answer, answer, counts_fit, entry_refusal, advance, pass}
use Rattle.rules.specs.Conservation.{lots_on, carried_on, booked, queued, Each, Conserved, Call, advances, passes, Claim}
use Rattle.rules.proofs.Conservation.{conservation}
use Rattle.deliveries.specs.Rows.{empty_deliveries}
use Rattle.observed.specs.Rows.{empty_observed}
use Rattle.orders.specs.Rows.{empty_orders}

-- c 1000 0 1 0 7 9
-- f now
abbrev pub config : Config
config = record { quantum_ns = 1000; observation_q = 0; ack_q = 1; jitter_q = 0; ceiling_ns = 0; s_max = 9; fill = Immediate }

-- o 10 1 B 101 5 0
abbrev pub order_one : VenueOrder
order_one = record { id = 1; side = Buy; price = 101; qty = 5; filled = 0; state = order.Submitted; active_after_ns = 10; cancel_inflight = false }

-- r 20 99 4 101 6
abbrev pub rows : List ℕ
rows = 20 ∷ 99 ∷ 4 ∷ 101 ∷ 6 ∷ []

abbrev pub start : KernelState
start = record {
  control = record { phase = ObsQueued; resume = ObsQueued; cursor = 0; cur_row = None; step = 0; status = Running };
  clock = record { now_ns = 0; last_delivery_ns = 0; last_observed_ns = 0 };
  rng_latency = 7;
  seqs = record { stamp_seq = 0; next_msg_seq = 1; next_exec_id = 0 };
  orders = empty_orders;
  msgs = record { slots = record { eff_ns = 10; seq = 0; kind = Activate order_one 0 } ∷ replicate 15 blank_msg; count = 1 };
  awaiting = empty_orders;
  gate = record { venue_pos = record { lots = pos 0 }; live_buy_lots = 5; live_sell_lots = 0; mark2 = None };
  deliveries = empty_deliveries;
  observed = empty_observed;
  agent = record { pos = record { lots = pos 0 }; last_obs_row = None; delivered_local_rejects = 0; delivered_fills = 0 };
  account = record { slots = record { order_id = 1; awaiting_cancel_outcome = false } ∷ replicate 7 blank_open; count = 1 };
  counters = record { halts = 0; venue_fills = 0; eof_dropped_msgs = 0; eof_dropped_obs = 0 };
}

abbrev report_of : ℕ → ℕ → ExecKind → ℕ → ReportRec
report_of ts seq k lots = record { ts_ns = ts; seq = seq; order_id = 1; side = Buy; kind = k; origin = Venue; cancel_pending = false; price = 101; qty = 5; last = lots; cum = lots }

-- advance, pass, advance. To unfold it is to unfold the rules
unfoldable pub third : Answer
unfolding pick fits fitting on_some ranged raised_by lowered_by live insert_at remove_at before found_in placed without put_at taken_at entry_at store_at emptied total on_side and_then putting taking iter next_state output draw stamp delay_ns under_ceiling delayed_time delay delayed push_delivery reported queue_delivery released release await await_marked book schedule remove_expiry schedule_expiry accept reject activate activation cancel_booked cancel_activation cancel_awaiting cancel expire_booked expire apply_next_msg matches ahead lots_of queue_fill_lots gate_filled filled_by fill_report fill_counted fill_event fill_at fills_of fills_at match_at match_from leave terminal_at sweep_from sweep gate_marked match_row count_fill count_reject on_delivery deliver_next deliver_all empty_queues close_data end_of_data pop_observation due_by next_msg next_delivery next_observation sooner next_of event_turn weight run_events row_at queue_observation match_phase before_match settle_row settle next_row obs_queued phase_turn turns phases answer counts_fit entry_refusal advance pass
third = advance config rows (pass (advance config rows start).state).state

events : List KernelEvent
events = (advance config rows start).events ++ third.events

sample :
    (events
    ≡ Report (report_of 10 0 exec.Accepted 0) ∷ Fill (record { ts_ns = 20; exec_id = 0; order_id = 1; side = Buy; price = 101; qty = 5 })
    ∷ Report (report_of 20 1 exec.Fill 5) ∷ Observed 0 20 ∷ RowEnd 0 20 ∷ Delivered (report_of 10 0 exec.Accepted 0) ∷ Delivered (report_of 20 1 exec.Fill 5)
    ∷ EndOfData 0 0 ∷ [])
    × (third.did ≡ ends [])
unfolding third events
sample = (refl, refl)

-- ---- the start has the three properties
start-lots : (d : Side) → live_lots d start.gate ≡ total (lots_on d) (booked start) + total (carried_on d) (queued start)
unfolding on_side total
start-lots Buy = refl
start-lots Sell = refl

start_conserved : Conserved start
unfolding Each total
start_conserved = record { lots = start-lots; open_orders = tt; positions = refl }

calls : List Call
calls = advances config rows [] ∷ passes ∷ advances config rows [] ∷ []

run_conserved : Claim calls start
run_conserved = conservation start start_conserved calls
