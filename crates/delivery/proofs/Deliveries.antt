-- Deliveries and the end of data: one law for each way out. Assumes nothing.
use Prim.Native.Nat.{ℕ, zero, suc, ◌+◌, ◌<◌, ◌≤◌, min}
use mathlib.Core.List.{List, map}
use mathlib.Core.Path.{◌≡◌, refl, sym, ap, ◌∙◌}
use native.Mathlib.Numerals.{add-one}
use lib.ListN.{length, drop, get_or, drop_of_length-le}
use lib.Seq.{drop-cons}
use Rattle.std.specs.Prelude.{Option, Some, None, Ok, Err}
use Rattle.std.specs.Option.{ok_or}
use Rattle.numbers.specs.Choice.{on_some}
use Rattle.numbers.specs.Words.{fitting}
use Rattle.lists.specs.Lists.{live, popped, taken_of, emptied}
use Rattle.lists.proofs.Cases.{different, enough_turns}
use Rattle.lists.proofs.Exits.{entry_over, take_none}
use Rattle.book.specs.Entries.{blank_msg, blank_delivery, blank_obs}
use Rattle.book.specs.declared.Delivery.{Delivery}
use Rattle.book.specs.declared.VenueMsg.{VenueMsg}
use Rattle.lists.specs.declared.Counted.{Counted}
use Rattle.account.specs.Rows.{AgentAccount}
use Rattle.deliveries.specs.Rows.{Deliveries}
use Rattle.msgs.specs.Rows.{Msgs}
use Rattle.observed.specs.Rows.{Observed}
use Rattle.state.specs.With.{with_control, with_msgs, with_deliveries, with_observed, with_account, with_counters, control_phase, control_status, counters_eof_dropped_msgs, counters_eof_dropped_obs}
use Rattle.state.specs.declared.Control.{Control}
use Rattle.state.specs.declared.HaltReason.{HaltReason}
use Rattle.state.specs.declared.HaltReason.TheVariants.{CounterOverflow}
use Rattle.state.specs.declared.KernelEvent.{KernelEvent}
use Rattle.state.specs.declared.KernelEvent.TheVariants.{Delivered, EndOfData}
use Rattle.state.specs.declared.KernelState.{KernelState}
use Rattle.state.specs.declared.Phase.TheVariants as phase
use Rattle.state.specs.declared.Status.TheVariants as status
use Rattle.rules.specs.Run as rules
use Rattle.rules.specs.Delivery.{move_agent, count_reject, on_delivery, deliver, deliver_next, deliver_all, dropped_event, empty_queues, close_data}
use Rattle.reports.specs.Log.{Logged, append_event, append_events, outcome_of, StepResult, expected, actual}
use Rattle.reports.specs.declared.Stop.{Stop}
use Rattle.reports.specs.declared.Stop.TheVariants as stop
use Rattle.reports.proofs.Append.{appended_append}
use Rattle.reports.proofs.Then.{ran_here, halted_here, then_on, then_stop, quiet_on, quiet_stop, raise_on, take_on}

-- ---- the first delivery
-- d came out, q is the rest, and m the log with its event
module _ (l m : Logged) (s : KernelState) (d : Delivery) (q : Deliveries) {a : Counted (Option Delivery)} (g : a.answer ≡ Some d) (h : taken_of a q ≡ popped 24 blank_delivery s.deliveries) (em : m ≡ append_event l (Delivered d.report)) where
  came_out : {x : StepResult}
      → x ≡ expected m (rules.and_then (move_agent d.fill (with_deliveries s q)) λ u. rules.and_then (count_reject d.report u) λ v. rules.ran_to (with_account v (on_delivery d.report v.account)))
      → x ≡ expected l (deliver_next s)
  unfolding deliver_next
  came_out p = take_on l (popped 24 blank_delivery s.deliveries) (λ y r. deliver y (with_deliveries s r)) _ g h (raise_on l m (Delivered d.report) _ _ em p)

  pub not_moved : {t : KernelState} {r : HaltReason} → rules.halt_at r t ≡ move_agent d.fill (with_deliveries s q) → actual (Err (stop.Halt r)) t m ≡ expected l (deliver_next s)
  not_moved e = came_out (quiet_stop m _ _ e)

  module _ {t : KernelState} (e : rules.ran_to t ≡ move_agent d.fill (with_deliveries s q)) where
    pub not_counted : {u : KernelState} {r : HaltReason} → rules.halt_at r u ≡ count_reject d.report t → actual (Err (stop.Halt r)) u m ≡ expected l (deliver_next s)
    not_counted f = came_out (quiet_on m _ _ e (quiet_stop m _ _ f))

    pub delivered : {u : KernelState} {a : AgentAccount} → rules.ran_to u ≡ count_reject d.report t → a ≡ on_delivery d.report u.account → actual (Ok tt) (with_account u a) m ≡ expected l (deliver_next s)
    delivered {u = u} f g = came_out (quiet_on m _ _ e (quiet_on m _ _ f (ran_here m _ ∙ ap (λ y. expected m (rules.ran_to (with_account u y))) g)))

-- ---- where no turn does anything: the count is above the capacity, and none comes out
module _ (s : KernelState) (h : 24 < s.deliveries.count) where
  none_comes : deliver_next s ≡ rules.ran_to s
  unfolding deliver_next rules.taking on_some
  none_comes = rw (← take_none 24 s.deliveries blank_delivery 0 (entry_over 24 s.deliveries blank_delivery 0 h))

  all_over : (k : ℕ) → deliver_all k s ≡ rules.ran_to s
  unfolding deliver_all rules.and_then
  all_over zero = refl
  all_over (suc k) = rw none_comes (all_over k)

-- as many turns as there are deliveries, and no more than places, deliver all
pub all_delivered : (s : KernelState) {turns : ℕ} → turns ≡ min s.deliveries.count 24 → deliver_all turns s ≡ deliver_all s.deliveries.count s
all_delivered s = enough_turns (λ k. deliver_all k s) (rules.ran_to s) s.deliveries.count 24 (all_over s)

-- ---- all of them: n are left at s, and t and m are what the first one leaves
pub all_done : {n : ℕ} (l : Logged) (s : KernelState) → n ≡ 0 → actual (Ok tt) s l ≡ expected l (deliver_all n s)
unfolding deliver_all
all_done l s h = rw h (ran_here l s)

module _ {n : ℕ} (k : ℕ) (l m : Logged) (s t : KernelState) (h : n ≡ suc k) where
  opens : deliver_all n s ≡ rules.and_then (deliver_next s) (deliver_all k)
  unfolding deliver_all
  opens = ap (λ i. deliver_all i s) h

  pub all_turn : actual (Ok tt) t m ≡ expected l (deliver_next s) → expected m (deliver_all k t) ≡ expected l (deliver_all n s)
  all_turn e = then_on l _ _ e refl ∙ ap (expected l) (sym opens)

  pub all_stop : {w : Stop} → actual (Err w) t m ≡ expected l (deliver_next s) → actual (Err w) t m ≡ expected l (deliver_all n s)
  all_stop e = then_stop l _ _ e ∙ ap (expected l) (sym opens)

-- ---- the dropped messages: from place i on, and past the last
pub dropped_turn : (l m : Logged) (ms : List VenueMsg) (i : ℕ) (d : VenueMsg) (e : KernelEvent) → i < length ms → e ≡ dropped_event (get_or ms i d) → m ≡ append_event l e
    → append_events m (map dropped_event (drop (i + 1) ms)) ≡ append_events l (map dropped_event (drop i ms))
unfolding append_events
dropped_turn l m ms i d e h he hm = rw (drop-cons ms i d, ← he, hm, add-one)

pub dropped_all : (l m : Logged) (ms : List VenueMsg) (i : ℕ) → length ms ≤ i → append_events m (map dropped_event (drop i ms)) ≡ append_events l (map dropped_event ms) → m ≡ append_events l (map dropped_event ms)
unfolding append_events
dropped_all l m ms i h e = rw (drop_of_length-le ms h) at e

-- ---- the end: m is the log with the events of the dropped messages, q and o are the emptied lists
module _ (l m : Logged) (s : KernelState) (q : Msgs) (o : Observed)
    (em : m ≡ append_events l (map dropped_event (live 16 s.msgs))) (hq : q ≡ emptied 16 blank_msg s.msgs) (ho : o ≡ emptied 16 blank_obs s.observed) where
  abbrev t : KernelState
  t = with_observed (with_msgs s q) o

  behind : (r : rules.Run) {x : StepResult} → x ≡ expected m r → x ≡ expected l (rules.after (map dropped_event (live 16 s.msgs)) r)
  unfolding expected
  behind r p = p ∙ ap (λ (g : Logged). record { outcome = outcome_of r.outcome; state = r.state; log = g }) (rw em (appended_append l (map dropped_event (live 16 s.msgs)) r.events))

  -- the count of the messages does not fit
  pub msgs_uncounted : {h : HaltReason} (n : Option ℕ) → n ≡ fitting (s.counters.eof_dropped_msgs + s.msgs.count) → Err h ≡ ok_or n CounterOverflow
      → actual (Err (stop.Halt h)) t m ≡ expected l (close_data s)
  unfolding close_data empty_queues on_some
  msgs_uncounted {h = h} None e g = behind _ (let z : h ≡ CounterOverflow = cc in rw (z, ← hq, ← ho, ← e) (halted_here m CounterOverflow t))
  msgs_uncounted (Some x) e g = different cc

  module _ (n : ℕ) (hn : Some n ≡ fitting (s.counters.eof_dropped_msgs + s.msgs.count)) where
    abbrev u : KernelState
    u = with_counters t (counters_eof_dropped_msgs s.counters n)

    -- that of the observations
    pub observed_uncounted : {h : HaltReason} (k : Option ℕ) → k ≡ fitting (s.counters.eof_dropped_obs + s.observed.count) → Err h ≡ ok_or k CounterOverflow
        → actual (Err (stop.Halt h)) u m ≡ expected l (close_data s)
    unfolding close_data empty_queues on_some
    observed_uncounted {h = h} None e g = behind _ (let z : h ≡ CounterOverflow = cc in rw (z, ← hq, ← ho, ← hn, ← e) (halted_here m CounterOverflow u))
    observed_uncounted (Some x) e g = different cc

    pub closed : (k : ℕ) {z : Logged} {c : Control} → Some k ≡ fitting (s.counters.eof_dropped_obs + s.observed.count)
        → c ≡ control_status (control_phase s.control phase.Terminal) status.EndOfData → z ≡ append_event m (EndOfData s.msgs.count s.observed.count)
        → actual (Err stop.Ended) (with_control (with_counters t (counters_eof_dropped_obs (counters_eof_dropped_msgs s.counters n) k)) c) z ≡ expected l (close_data s)
    unfolding close_data empty_queues on_some
    closed k hk hc hz = behind _ (rw (← hq, ← ho, ← hn, ← hk, hc, hz) (unfold expected append_events in refl))
