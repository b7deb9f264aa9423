-- 'Events': the walk over the three queues.
use Rattle.std.specs.Prelude.{ℕ, suc, ◌+◌, ◌*◌, max, [], ◌∷◌, leb, Some}
use Rattle.numbers.specs.Choice.{pick, on_some}
use Rattle.lists.specs.Lists.{below, popped, entry_at, total}
use Rattle.book.specs.Capacities.{msgs_capacity, deliveries_capacity, observed_capacity}
use Rattle.book.specs.Entries.{blank_msg, blank_delivery, blank_obs}
use Rattle.state.specs.With.{with_control, with_clock, with_observed, with_agent, control_phase, control_resume, control_status, clock_now_ns, agent_last_obs_row}
use Rattle.book.specs.declared.MsgKind.{MsgKind}
use Rattle.book.specs.declared.MsgKind.TheVariants.{Cancel, Activate, Expire}
use Rattle.book.specs.declared.VenueMsg.{VenueMsg}
use Rattle.book.specs.declared.config.Config.{Config}
use Rattle.state.specs.declared.KernelEvent.TheVariants.{Observed}
use Rattle.state.specs.declared.KernelState.{KernelState}
use Rattle.state.specs.declared.Phase.TheVariants as phase
use Rattle.state.specs.declared.Status.TheVariants as status
use Rattle.state.specs.declared.Control.{Control}
use Rattle.rules.specs.Run.{Run, left, ran_to, taking, Turn, again, last, iter}
use Rattle.rules.specs.Messages.{apply_next_msg}
use Rattle.rules.specs.Delivery.{deliver_next}

-- ---- an observation
-- "A pause .. saves the phase in `resume`, and the phase becomes AwaitDecision."
abbrev pub paused_at : Control → Control
paused_at c = control_phase (control_resume c c.phase) phase.AwaitDecision

-- "A pause sets `last_obs_row`, writes observed, ..": s is without the observation of that row
abbrev pub pauses : ℕ → KernelState → Run
pauses row s = record {
  outcome = left;
  state = with_agent (with_control s (paused_at s.control)) (agent_last_obs_row s.agent (Some row));
  events = Observed row s.clock.now_ns ∷ [];
}

-- "`step` at or above `s_max`: Truncated, Terminal."
abbrev pub truncated : Control → Control
truncated c = control_status (control_phase c phase.Terminal) status.Truncated

-- the same of a state
abbrev pub truncates : KernelState → KernelState
truncates s = with_control s (truncated s.control)

-- "At `s_max` the observation is removed unseen."
unfoldable pub pop_observation : Config → KernelState → Run
pop_observation c s =
    taking (popped observed_capacity blank_obs s.observed)
    (λ e l. let t : KernelState = with_observed s l in
    pick (leb c.s_max s.control.step)
    (record { outcome = left; state = truncates t; events = [] })
    (pauses e.row t))
    (ran_to s)

-- ---- which event is next
-- "venue, then delivery, then observation"
pub data Class : Type 0 where
  venue : Class
  delivery : Class
  observation : Class

-- no event is due, or the first one that is, with its time
pub data Next : Type 0 where
  nothing : Next
  next : Class → ℕ → Next

-- an event at or below the limit
unfoldable pub due_by : ℕ → Class → ℕ → Next
due_by limit k t = pick (leb t limit) (next k t) nothing

-- the first entry of each list, if it is due
unfoldable pub next_msg : ℕ → KernelState → Next
next_msg limit s = on_some (entry_at msgs_capacity blank_msg 0 s.msgs) (λ m. due_by limit venue m.eff_ns) nothing

-- the same of deliveries
unfoldable pub next_delivery : ℕ → KernelState → Next
next_delivery limit s = on_some (entry_at deliveries_capacity blank_delivery 0 s.deliveries) (λ d. due_by limit delivery d.at_ns) nothing

-- the same of observations
unfoldable pub next_observation : ℕ → KernelState → Next
next_observation limit s = on_some (entry_at observed_capacity blank_obs 0 s.observed) (λ e. due_by limit observation e.ready_ns) nothing

-- the earlier of two, at equal times the first
unfoldable pub sooner : Next → Next → Next
sooner nothing n = n
sooner (next k t) nothing = next k t
sooner (next k t) (next j u) = pick (leb t u) (next k t) (next j u)

-- "The least time at or below the limit goes first; at equal times venue, then delivery, then observation."
unfoldable pub next_of : ℕ → KernelState → Next
next_of limit s = sooner (next_msg limit s) (sooner (next_delivery limit s) (next_observation limit s))

-- ---- the walk
-- "`now_ns` rises to its time first and never falls."
abbrev pub clock_to : ℕ → KernelState → KernelState
clock_to t s = with_clock s (clock_now_ns s.clock (max t s.clock.now_ns))

-- what an event does, the clock at its time
abbrev pub handle : Config → Class → KernelState → Run
handle c venue s = apply_next_msg c s
handle c delivery s = deliver_next s
handle c observation s = pop_observation c s

-- the walk goes on behind an event, and ends where none is due
abbrev pub turn_on : Config → Next → KernelState → Turn
turn_on c nothing s = last (ran_to s)
turn_on c (next k t) s = again (handle c k (clock_to t s))

-- one event up to the limit
unfoldable pub event_turn : Config → ℕ → KernelState → Turn
event_turn c limit s = turn_on c (next_of limit s) s

-- more than the turns that are left: a message makes a delivery, and an activation an expiry too
abbrev pub extra_kind : MsgKind → ℕ
extra_kind (Cancel id) = 0
extra_kind (Activate o life) = 2
extra_kind (Expire id) = 0

-- the same of a message
abbrev pub extra : VenueMsg → ℕ
extra m = extra_kind m.kind

-- the turns that the walk is given, less one
unfoldable pub weight : KernelState → ℕ
weight s = 2 * s.msgs.count + total extra (below s.msgs) + s.deliveries.count + s.observed.count

-- "The walk is left from inside as soon as an observation pauses it or truncates."
unfoldable pub run_events : Config → ℕ → KernelState → Run
run_events c limit s = iter (event_turn c limit) (suc (weight s)) s
