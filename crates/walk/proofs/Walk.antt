-- The walk over the three queues: one law for each way out. Assumes nothing.
use Prim.Native.Nat.{ℕ, ◌<◌, ◌≤◌, max}
use mathlib.Core.Path.{◌≡◌, refl, sym, ap, ◌∙◌}
use borrow.Author.Tests.{lt-leb, le-leb}
use Rattle.std.specs.Prelude.{Option, Some, Ok, Err}
use Rattle.numbers.specs.Choice.{pick}
use Rattle.lists.specs.Lists.{popped, taken_of}
use Rattle.lists.specs.declared.Counted.{Counted}
use Rattle.book.specs.Entries.{blank_obs}
use Rattle.book.specs.declared.ObsEntry.{ObsEntry}
use Rattle.book.specs.declared.config.Config.{Config}
use Rattle.observed.specs.Rows.{Observed}
use Rattle.state.specs.With.{with_control, with_clock, with_observed, with_agent, clock_now_ns, agent_last_obs_row}
use Rattle.state.specs.declared.Control.{Control}
use Rattle.state.specs.declared.KernelEvent.TheVariants as event
use Rattle.state.specs.declared.KernelState.{KernelState}
use Rattle.rules.specs.Run as rules
use Rattle.rules.specs.Events.{paused_at, truncated, pop_observation, Class, nothing, next, next_of, clock_to, handle, event_turn, weight, run_events}
use Rattle.rules.proofs.Falls.{event_falls, walk_again, walk_last}
use Rattle.reports.specs.Log.{Logged, append_event, append_events, StepResult, expected, actual}
use Rattle.reports.specs.declared.Stop.{Stop}
use Rattle.reports.specs.declared.Stop.TheVariants as stop
use Rattle.reports.proofs.Then.{ran_here, ran_there, then_on, then_stop, take_on}

-- ---- an observation
-- e came out, and q is the rest
module _ (c : Config) (l : Logged) (s : KernelState) (e : ObsEntry) (q : Observed) {a : Counted (Option ObsEntry)} (p : a.answer ≡ Some e) (h : taken_of a q ≡ popped 16 blank_obs s.observed) where
  pub pop_over : {k : Control} → c.s_max ≤ s.control.step → k ≡ truncated s.control → actual (Err stop.Left) (with_control (with_observed s q) k) l ≡ expected l (pop_observation c s)
  unfolding pop_observation pick expected append_events
  pop_over g hk = take_on l (popped 16 blank_obs s.observed) _ _ p h (rw (le-leb c.s_max s.control.step g, hk))

  pub pop_pauses : {m : Logged} {k : Control} → s.control.step < c.s_max → m ≡ append_event l (event.Observed e.row s.clock.now_ns) → k ≡ paused_at s.control
      → actual (Err stop.Left) (with_agent (with_control (with_observed s q) k) (agent_last_obs_row s.agent (Some e.row))) m ≡ expected l (pop_observation c s)
  unfolding pop_observation pick expected append_events
  pop_pauses g hm hk = take_on l (popped 16 blank_obs s.observed) _ _ p h (rw (lt-leb c.s_max s.control.step g, hk, hm))

-- ---- the walk: nothing is due
pub walk_done : (c : Config) (limit : ℕ) (l : Logged) (s : KernelState) → nothing ≡ next_of limit s → actual (Ok tt) s l ≡ expected l (run_events c limit s)
unfolding event_turn
walk_done c limit l s e = ran_here l s ∙ ap (expected l) (sym (walk_last c limit s (rules.ran_to s) (rw (← e))))

-- k is due at a time, to which the clock rises; t and m are what it leaves
module _ (c : Config) (limit : ℕ) (l m : Logged) (s t : KernelState) (k : Class) (at now : ℕ) (e : next k at ≡ next_of limit s) (n : now ≡ max at s.clock.now_ns) where
  abbrev handled : rules.Run
  handled = handle c k (clock_to at s)

  turn : event_turn c limit s ≡ rules.again handled
  unfolding event_turn
  turn = rw (← e)

  opens : run_events c limit s ≡ rules.and_then handled (run_events c limit)
  opens = walk_again c limit s handled turn

  risen : {x : StepResult} → x ≡ expected l (handle c k (with_clock s (clock_now_ns s.clock now))) → x ≡ expected l handled
  risen p = rw (← n) p

  pub walk_goes : actual (Ok tt) t m ≡ expected l (handle c k (with_clock s (clock_now_ns s.clock now))) → expected m (run_events c limit t) ≡ expected l (run_events c limit s)
  walk_goes p = then_on l handled (run_events c limit) (risen p) refl ∙ ap (expected l) (sym opens)

  pub walk_stops : {w : Stop} → actual (Err w) t m ≡ expected l (handle c k (with_clock s (clock_now_ns s.clock now))) → actual (Err w) t m ≡ expected l (run_events c limit s)
  walk_stops p = then_stop l handled (run_events c limit) (risen p) ∙ ap (expected l) (sym opens)

  -- the weight falls, so the walk ends
  pub walk_falls : actual (Ok tt) t m ≡ expected l (handle c k (with_clock s (clock_now_ns s.clock now))) → weight t < weight s
  walk_falls p =
      let g = ran_there l handled (risen p) in
      rw g.1 at (event_falls c limit s handled turn g.0)
