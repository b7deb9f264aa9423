-- A record with one field replaced, for each field of the state and of its parts: the logic has no update of a field.
use Rattle.std.specs.Prelude.{ℕ, Option}
use Rattle.account.specs.Rows.{AgentAccount}
use Rattle.state.specs.declared.AgentView.{AgentView}
use Rattle.state.specs.declared.Clock.{Clock}
use Rattle.state.specs.declared.Control.{Control}
use Rattle.state.specs.declared.Counters.{Counters}
use Rattle.deliveries.specs.Rows.{Deliveries}
use Rattle.state.specs.declared.GateState.{GateState}
use Rattle.state.specs.declared.KernelState.{KernelState}
use Rattle.msgs.specs.Rows.{Msgs}
use Rattle.observed.specs.Rows.{Observed}
use Rattle.orders.specs.Rows.{Orders}
use Rattle.state.specs.declared.Phase.{Phase}
use Rattle.numbers.specs.declared.position.Position.{Position}
use Rattle.state.specs.declared.Seqs.{Seqs}
use Rattle.state.specs.declared.Status.{Status}

abbrev pub with_control : KernelState → Control → KernelState
with_control s x = record { control = x; clock = s.clock; rng_latency = s.rng_latency; seqs = s.seqs; orders = s.orders; msgs = s.msgs; awaiting = s.awaiting; gate = s.gate; deliveries = s.deliveries; observed = s.observed; agent = s.agent; account = s.account; counters = s.counters }

abbrev pub with_clock : KernelState → Clock → KernelState
with_clock s x = record { control = s.control; clock = x; rng_latency = s.rng_latency; seqs = s.seqs; orders = s.orders; msgs = s.msgs; awaiting = s.awaiting; gate = s.gate; deliveries = s.deliveries; observed = s.observed; agent = s.agent; account = s.account; counters = s.counters }

abbrev pub with_rng_latency : KernelState → ℕ → KernelState
with_rng_latency s x = record { control = s.control; clock = s.clock; rng_latency = x; seqs = s.seqs; orders = s.orders; msgs = s.msgs; awaiting = s.awaiting; gate = s.gate; deliveries = s.deliveries; observed = s.observed; agent = s.agent; account = s.account; counters = s.counters }

abbrev pub with_seqs : KernelState → Seqs → KernelState
with_seqs s x = record { control = s.control; clock = s.clock; rng_latency = s.rng_latency; seqs = x; orders = s.orders; msgs = s.msgs; awaiting = s.awaiting; gate = s.gate; deliveries = s.deliveries; observed = s.observed; agent = s.agent; account = s.account; counters = s.counters }

abbrev pub with_orders : KernelState → Orders → KernelState
with_orders s x = record { control = s.control; clock = s.clock; rng_latency = s.rng_latency; seqs = s.seqs; orders = x; msgs = s.msgs; awaiting = s.awaiting; gate = s.gate; deliveries = s.deliveries; observed = s.observed; agent = s.agent; account = s.account; counters = s.counters }

abbrev pub with_msgs : KernelState → Msgs → KernelState
with_msgs s x = record { control = s.control; clock = s.clock; rng_latency = s.rng_latency; seqs = s.seqs; orders = s.orders; msgs = x; awaiting = s.awaiting; gate = s.gate; deliveries = s.deliveries; observed = s.observed; agent = s.agent; account = s.account; counters = s.counters }

abbrev pub with_awaiting : KernelState → Orders → KernelState
with_awaiting s x = record { control = s.control; clock = s.clock; rng_latency = s.rng_latency; seqs = s.seqs; orders = s.orders; msgs = s.msgs; awaiting = x; gate = s.gate; deliveries = s.deliveries; observed = s.observed; agent = s.agent; account = s.account; counters = s.counters }

abbrev pub with_gate : KernelState → GateState → KernelState
with_gate s x = record { control = s.control; clock = s.clock; rng_latency = s.rng_latency; seqs = s.seqs; orders = s.orders; msgs = s.msgs; awaiting = s.awaiting; gate = x; deliveries = s.deliveries; observed = s.observed; agent = s.agent; account = s.account; counters = s.counters }

abbrev pub with_deliveries : KernelState → Deliveries → KernelState
with_deliveries s x = record { control = s.control; clock = s.clock; rng_latency = s.rng_latency; seqs = s.seqs; orders = s.orders; msgs = s.msgs; awaiting = s.awaiting; gate = s.gate; deliveries = x; observed = s.observed; agent = s.agent; account = s.account; counters = s.counters }

abbrev pub with_observed : KernelState → Observed → KernelState
with_observed s x = record { control = s.control; clock = s.clock; rng_latency = s.rng_latency; seqs = s.seqs; orders = s.orders; msgs = s.msgs; awaiting = s.awaiting; gate = s.gate; deliveries = s.deliveries; observed = x; agent = s.agent; account = s.account; counters = s.counters }

abbrev pub with_agent : KernelState → AgentView → KernelState
with_agent s x = record { control = s.control; clock = s.clock; rng_latency = s.rng_latency; seqs = s.seqs; orders = s.orders; msgs = s.msgs; awaiting = s.awaiting; gate = s.gate; deliveries = s.deliveries; observed = s.observed; agent = x; account = s.account; counters = s.counters }

abbrev pub with_account : KernelState → AgentAccount → KernelState
with_account s x = record { control = s.control; clock = s.clock; rng_latency = s.rng_latency; seqs = s.seqs; orders = s.orders; msgs = s.msgs; awaiting = s.awaiting; gate = s.gate; deliveries = s.deliveries; observed = s.observed; agent = s.agent; account = x; counters = s.counters }

abbrev pub with_counters : KernelState → Counters → KernelState
with_counters s x = record { control = s.control; clock = s.clock; rng_latency = s.rng_latency; seqs = s.seqs; orders = s.orders; msgs = s.msgs; awaiting = s.awaiting; gate = s.gate; deliveries = s.deliveries; observed = s.observed; agent = s.agent; account = s.account; counters = x }

-- ---- Control
abbrev pub control_phase : Control → Phase → Control
control_phase s x = record { phase = x; resume = s.resume; cursor = s.cursor; cur_row = s.cur_row; step = s.step; status = s.status }

abbrev pub control_resume : Control → Phase → Control
control_resume s x = record { phase = s.phase; resume = x; cursor = s.cursor; cur_row = s.cur_row; step = s.step; status = s.status }

abbrev pub control_cursor : Control → ℕ → Control
control_cursor s x = record { phase = s.phase; resume = s.resume; cursor = x; cur_row = s.cur_row; step = s.step; status = s.status }

abbrev pub control_cur_row : Control → Option ℕ → Control
control_cur_row s x = record { phase = s.phase; resume = s.resume; cursor = s.cursor; cur_row = x; step = s.step; status = s.status }

abbrev pub control_step : Control → ℕ → Control
control_step s x = record { phase = s.phase; resume = s.resume; cursor = s.cursor; cur_row = s.cur_row; step = x; status = s.status }

abbrev pub control_status : Control → Status → Control
control_status s x = record { phase = s.phase; resume = s.resume; cursor = s.cursor; cur_row = s.cur_row; step = s.step; status = x }

-- ---- Clock
abbrev pub clock_now_ns : Clock → ℕ → Clock
clock_now_ns s x = record { now_ns = x; last_delivery_ns = s.last_delivery_ns; last_observed_ns = s.last_observed_ns }

abbrev pub clock_last_delivery_ns : Clock → ℕ → Clock
clock_last_delivery_ns s x = record { now_ns = s.now_ns; last_delivery_ns = x; last_observed_ns = s.last_observed_ns }

abbrev pub clock_last_observed_ns : Clock → ℕ → Clock
clock_last_observed_ns s x = record { now_ns = s.now_ns; last_delivery_ns = s.last_delivery_ns; last_observed_ns = x }

-- ---- Seqs
abbrev pub seqs_stamp_seq : Seqs → ℕ → Seqs
seqs_stamp_seq s x = record { stamp_seq = x; next_msg_seq = s.next_msg_seq; next_exec_id = s.next_exec_id }

abbrev pub seqs_next_msg_seq : Seqs → ℕ → Seqs
seqs_next_msg_seq s x = record { stamp_seq = s.stamp_seq; next_msg_seq = x; next_exec_id = s.next_exec_id }

abbrev pub seqs_next_exec_id : Seqs → ℕ → Seqs
seqs_next_exec_id s x = record { stamp_seq = s.stamp_seq; next_msg_seq = s.next_msg_seq; next_exec_id = x }

-- ---- GateState
abbrev pub gate_venue_pos : GateState → Position → GateState
gate_venue_pos s x = record { venue_pos = x; live_buy_lots = s.live_buy_lots; live_sell_lots = s.live_sell_lots; mark2 = s.mark2 }

abbrev pub gate_live_buy_lots : GateState → ℕ → GateState
gate_live_buy_lots s x = record { venue_pos = s.venue_pos; live_buy_lots = x; live_sell_lots = s.live_sell_lots; mark2 = s.mark2 }

abbrev pub gate_live_sell_lots : GateState → ℕ → GateState
gate_live_sell_lots s x = record { venue_pos = s.venue_pos; live_buy_lots = s.live_buy_lots; live_sell_lots = x; mark2 = s.mark2 }

abbrev pub gate_mark2 : GateState → Option ℕ → GateState
gate_mark2 s x = record { venue_pos = s.venue_pos; live_buy_lots = s.live_buy_lots; live_sell_lots = s.live_sell_lots; mark2 = x }

-- ---- AgentView
abbrev pub agent_pos : AgentView → Position → AgentView
agent_pos s x = record { pos = x; last_obs_row = s.last_obs_row; delivered_local_rejects = s.delivered_local_rejects; delivered_fills = s.delivered_fills }

abbrev pub agent_last_obs_row : AgentView → Option ℕ → AgentView
agent_last_obs_row s x = record { pos = s.pos; last_obs_row = x; delivered_local_rejects = s.delivered_local_rejects; delivered_fills = s.delivered_fills }

abbrev pub agent_delivered_local_rejects : AgentView → ℕ → AgentView
agent_delivered_local_rejects s x = record { pos = s.pos; last_obs_row = s.last_obs_row; delivered_local_rejects = x; delivered_fills = s.delivered_fills }

abbrev pub agent_delivered_fills : AgentView → ℕ → AgentView
agent_delivered_fills s x = record { pos = s.pos; last_obs_row = s.last_obs_row; delivered_local_rejects = s.delivered_local_rejects; delivered_fills = x }

-- ---- Counters
abbrev pub counters_halts : Counters → ℕ → Counters
counters_halts s x = record { halts = x; venue_fills = s.venue_fills; eof_dropped_msgs = s.eof_dropped_msgs; eof_dropped_obs = s.eof_dropped_obs }

abbrev pub counters_venue_fills : Counters → ℕ → Counters
counters_venue_fills s x = record { halts = s.halts; venue_fills = x; eof_dropped_msgs = s.eof_dropped_msgs; eof_dropped_obs = s.eof_dropped_obs }

abbrev pub counters_eof_dropped_msgs : Counters → ℕ → Counters
counters_eof_dropped_msgs s x = record { halts = s.halts; venue_fills = s.venue_fills; eof_dropped_msgs = x; eof_dropped_obs = s.eof_dropped_obs }

abbrev pub counters_eof_dropped_obs : Counters → ℕ → Counters
counters_eof_dropped_obs s x = record { halts = s.halts; venue_fills = s.venue_fills; eof_dropped_msgs = s.eof_dropped_msgs; eof_dropped_obs = x }
