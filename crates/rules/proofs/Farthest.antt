-- N8's bound is reached, by computation: no smaller number would do. Assumes nothing.
use Rattle.std.specs.Prelude.{None}
use Prim.Native.Nat.{ℕ, zero, suc, ◌+◌, ◌-◌}
use mathlib.Core.List.{List, [], ◌∷◌, ◌++◌, map}
use mathlib.Core.Path.{◌≡◌, refl}
use lib.IntN.{pos}
use lib.ListN.{replicate}
use Rattle.numbers.specs.Choice.{pick, on_some}
use Rattle.numbers.specs.Words.{fits, fitting}
use Rattle.lists.specs.Lists.{live, insert_at, placed, put_at, entry_at, total}
use Rattle.book.specs.Entries.{blank_obs}
use Rattle.book.specs.declared.config.Config.{Config}
use Rattle.book.specs.declared.config.FillMode.TheVariants.{Immediate}
use Rattle.state.specs.declared.KernelState.{KernelState}
use Rattle.state.specs.declared.Phase.TheVariants.{ObsQueued}
use Rattle.state.specs.declared.Status.TheVariants.{Running}
use Rattle.rules.specs.Run.{and_then, putting, taking, iter}
use Rattle.rules.specs.Generator.{draw}
use Rattle.rules.specs.Report.{delay_ns, under_ceiling, delayed_time, delay, delayed}
use Rattle.rules.specs.Matching.{match_from, sweep_from, sweep, gate_marked, match_row}
use Rattle.rules.specs.Events.{due_by, next_msg, next_delivery, next_observation, sooner, next_of, event_turn, weight, run_events}
use Rattle.rules.specs.Phases.{row_at, queue_observation, match_phase, before_match, settle_row, settle, next_row, obs_queued, phase_turn, turns, phases}
use Rattle.rules.specs.Calls.{answer, counts_fit, entry_refusal, advance}
use Rattle.account.specs.Rows.{empty_agent_account}
use Rattle.deliveries.specs.Rows.{empty_deliveries}
use Rattle.msgs.specs.Rows.{empty_msgs}
use Rattle.orders.specs.Rows.{empty_orders}

-- n rows, one a nanosecond from t on
unfoldable pub rows_from : ℕ → ℕ → List ℕ
rows_from zero t = []
rows_from (suc n) t = t ∷ 99 ∷ 1 ∷ 101 ∷ 1 ∷ rows_from n (t + 1)

-- `observation_q` so large that no observation comes due
unfoldable pub config : Config
config = record { quantum_ns = 1; observation_q = 1000; ack_q = 0; jitter_q = 0; ceiling_ns = 0; s_max = 9; fill = Immediate }

-- n observations queued, due after every row
unfoldable pub waiting : ℕ → KernelState
waiting n = record {
  control = record { phase = ObsQueued; resume = ObsQueued; cursor = 0; cur_row = None; step = 0; status = Running };
  clock = record { now_ns = 0; last_delivery_ns = 0; last_observed_ns = 0 };
  rng_latency = 7;
  seqs = record { stamp_seq = 0; next_msg_seq = 0; next_exec_id = 0 };
  orders = empty_orders;
  msgs = empty_msgs;
  awaiting = empty_orders;
  gate = record { venue_pos = record { lots = pos 0 }; live_buy_lots = 0; live_sell_lots = 0; mark2 = None };
  deliveries = empty_deliveries;
  observed = record { slots = replicate n (record { ready_ns = 1000; row = 0 }) ++ replicate (16 - n) blank_obs; count = n };
  agent = record { pos = record { lots = pos 0 }; last_obs_row = None; delivered_local_rejects = 0; delivered_fills = 0 };
  account = empty_agent_account;
  counters = record { halts = 0; venue_fills = 0; eof_dropped_msgs = 0; eof_dropped_obs = 0 };
}

-- with 0, 1, .. 16 observations queued and 18 rows the cursor rises by 17, 16, .. 1; the next observation finds the list full
reached : map (λ n. (advance config (rows_from 18 1) (waiting n)).state.control.cursor) (0 ∷ 1 ∷ 2 ∷ 3 ∷ 4 ∷ 5 ∷ 6 ∷ 7 ∷ 8 ∷ 9 ∷ 10 ∷ 11 ∷ 12 ∷ 13 ∷ 14 ∷ 15 ∷ 16 ∷ [])
    ≡ 17 ∷ 16 ∷ 15 ∷ 14 ∷ 13 ∷ 12 ∷ 11 ∷ 10 ∷ 9 ∷ 8 ∷ 7 ∷ 6 ∷ 5 ∷ 4 ∷ 3 ∷ 2 ∷ 1 ∷ []
unfolding rows_from config waiting pick fits fitting on_some live insert_at placed put_at entry_at total and_then putting taking iter draw delay_ns under_ceiling delayed_time delay delayed match_from sweep_from sweep gate_marked match_row due_by next_msg next_delivery next_observation sooner next_of event_turn weight run_events row_at queue_observation match_phase before_match settle_row settle next_row obs_queued phase_turn turns phases answer counts_fit entry_refusal advance
reached = refl
