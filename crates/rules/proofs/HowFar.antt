-- N8 and the events of a call: how far the cursor goes, what the call raises, and what its messages can still raise. Assumes nothing.
use Prim.Native.Nat.{ℕ, suc, ◌+◌, ◌-◌, ◌*◌, ◌≤◌, ◌<◌}
use mathlib.Core.List.{List, [], ◌∷◌}
use mathlib.Core.Path.{◌≡◌, refl}
use native.Mathlib.Omega.{arith}
use lib.ListN.{length, length-take}
use Rattle.lists.specs.Lists.{below, total}
use Rattle.book.specs.declared.MsgKind.{MsgKind}
use Rattle.book.specs.declared.MsgKind.TheVariants.{Cancel, Activate, Expire}
use Rattle.book.specs.declared.VenueMsg.{VenueMsg}
use Rattle.book.specs.declared.config.Config.{Config}
use Rattle.state.specs.declared.Control.{Control}
use Rattle.state.specs.declared.KernelState.{KernelState}
use Rattle.state.specs.declared.Phase.{Phase}
use Rattle.state.specs.declared.Phase.TheVariants.{BeforeMatch, ObsQueued, AwaitDecision, Terminal}
use Rattle.rules.specs.Run.{Outcome, Run, ran, left, halt, ended}
use Rattle.rules.specs.Phases.{on_phase, phase_turn, turns, phases}
use Rattle.rules.specs.Calls.{Answer, refuse, answer_on, answer, advance}
use Rattle.rules.specs.HowFar.{HowFar}
use Rattle.rules.specs.FewEvents.{raisable_kind, raisable, msgs_events, queued_events, FewEvents}
use Rattle.rules.proofs.Entry.{advance_case}
use Rattle.rules.proofs.Cases.{answer-few}
use Rattle.rules.proofs.Counts.{Fitting, counts-fitting}
use Rattle.rules.proofs.Loop.{run_of}
use Rattle.rules.proofs.Bounded.{Within, ran_in, map_in, end_out, iter_in}
use Rattle.rules.proofs.Costs.{Stops}
use Rattle.rules.proofs.Paid.{Paid, pays_less}
use Rattle.rules.proofs.CostsOfRow.{Matched, before_in, AfterRow, onward, stopped, queued_in}

few-raisable : (l : List VenueMsg) → total raisable l ≤ 3 * length l
unfolding total
few-raisable [] = omega arith
few-raisable (m ∷ l) = let e = few-raisable l in let w = go m.kind in omega arith
  where
    go : (k : MsgKind) → raisable_kind k ≤ 3
    go (Cancel id) = omega arith
    go (Activate o life) = omega arith
    go (Expire id) = omega arith

-- messages within their capacity can raise 80 events
few-msgs : (s : KernelState) → Fitting s → msgs_events s.msgs ≤ 80
few-msgs s f = omega (arith, f.msgs, few-raisable (below s.msgs), length-take s.msgs.count s.msgs.slots)

-- the rows that can still be taken up: each queues an observation, and one that is taken from the queue ends the call
abbrev pub rows_in : Phase → ℕ → ℕ
rows_in BeforeMatch o = 16 - o
rows_in ObsQueued o = 17 - o
rows_in AwaitDecision o = 0
rows_in Terminal o = 0

-- the events that the rows can raise: 24 to match one and 1 for its end, 16 for one that finds no room for its observation
abbrev pub events_in : Phase → ℕ → ℕ
events_in BeforeMatch o = 16 + 25 * (16 - o)
events_in ObsQueued o = 17 + 25 * (16 - o)
events_in AwaitDecision o = 0
events_in Terminal o = 0

-- what is so between two turns: the cursor started at a and goes no further than b, and all that may be raised is paid for
pub record Far (a b w n : ℕ) (s : KernelState) : Type 0 where
  pub low : a ≤ s.control.cursor
  pub high : s.control.cursor + rows_in s.control.phase s.observed.count ≤ b
  pub seen : s.observed.count ≤ 16
  pub paid : Paid s.control 8 s.observed.count w (events_in s.control.phase s.observed.count) n s

-- what is so where the turns end
pub record Reached (a b w : ℕ) (s : KernelState) : Type 0 where
  pub low : a ≤ s.control.cursor
  pub high : s.control.cursor ≤ b
  pub light : msgs_events s.msgs ≤ w

module _ {a b w : ℕ} where
  -- ---- what a turn left is so of the state
  far_on : {k : Control} {o n : ℕ} (s : KernelState) → a ≤ k.cursor → k.cursor + rows_in k.phase o ≤ b → o ≤ 16 → Paid k 8 o w (events_in k.phase o) n s → Far a b w n s
  far_on s l g q p = record {
    low = rw p.at l;
    high = rw (p.at, p.seen) g;
    seen = rw p.seen q;
    paid = record { at = refl; room = p.room; few = p.few; seen = refl; light = p.light; held = p.held; spare = rw (p.at, p.seen) p.spare };
  }

  stops-far : {k : Control} (s : KernelState) → a ≤ k.cursor → k.cursor ≤ b → Stops raisable_kind k w s → Reached a b w s
  stops-far s l g z = record { low = omega (arith, z.cursor); high = omega (arith, z.cursor); light = z.light }

  far-reached : {n : ℕ} (s : KernelState) → Far a b w n s → Reached a b w s
  far-reached s f = record { low = f.low; high = omega (arith, f.high); light = omega (arith, f.paid.light) }

  -- ---- each turn keeps it
  matched-far : {n : ℕ} (k : Control) (o : ℕ) (s : KernelState) → a ≤ k.cursor → k.cursor + (16 - o) ≤ b → Matched k 8 o w (16 + 25 * (16 - o)) n s → Far a b w n s
  matched-far k o s l g m = far_on s l (omega (arith, m.1)) m.1 (m.0 (17 + 25 * (16 - (o + 1))) (omega (arith, m.1)))

  after-far : {n : ℕ} (rows : List ℕ) (k : Control) (o : ℕ) (s : KernelState) → a ≤ k.cursor → k.cursor + (17 - o) ≤ b → o ≤ 16 → AfterRow rows k 8 o w (16 + 25 * (16 - o)) n s → Far a b w n s
  after-far rows k o s l g q (onward v p) = far_on s (omega arith) (omega arith) q p
  after-far rows k o s l g q (stopped p) = far_on s l (omega arith) q (pays_less (16 + 25 * (16 - o)) 0 s (omega arith) p)

  pub turn-far : (c : Config) (rows : List ℕ) (n : ℕ) (s : KernelState) → Far a b w n s → Within (Reached a b w) n (Far a b w) (run_of (phase_turn c rows s))
  unfolding phase_turn
  turn-far c rows n s f = go s.control.phase refl f.high f.paid
    where
      o : ℕ
      o = s.observed.count

      go : (p : Phase) → s.control.phase ≡ p → s.control.cursor + rows_in p s.observed.count ≤ b → Paid s.control 8 s.observed.count w (events_in p s.observed.count) n s
          → Within (Reached a b w) n (Far a b w) (run_of (on_phase p c rows s))
      go BeforeMatch e g p =
          map_in (λ u z. stops-far u f.low (omega arith) z) (λ m u y. matched-far s.control o u f.low g y) (before_in (16 + 25 * (16 - o)) c rows s (omega arith) p)
      go ObsQueued e g p =
          map_in (λ u z. stops-far u f.low (omega arith) z) (λ m u y. after-far rows s.control o u f.low g f.seen y)
          (queued_in (16 + 25 * (16 - o)) c rows s (omega arith) (pays_less (17 + 25 * (16 - o)) (16 + 25 * (16 - o) + 1) s (omega arith) p))
      go AwaitDecision e g p = ran_in f
      go Terminal e g p = ran_in f

-- ---- the whole call
-- the events of a call but for a halt's
abbrev pub raised_from : KernelState → ℕ
raised_from s = queued_events s + (17 + 25 * (16 - s.observed.count))

pub start-far : (s : KernelState) → Fitting s → Far s.control.cursor (s.control.cursor + (17 - s.observed.count)) (msgs_events s.msgs) (raised_from s) s
start-far s f = record {
  low = omega arith;
  high = rows_few s.control.phase;
  seen = f.observed;
  paid = record { at = refl; room = omega arith; few = f.orders; seen = refl; light = omega arith; held = omega arith; spare = omega (arith, events-few s.control.phase) };
}
  where
    rows_few : (p : Phase) → s.control.cursor + rows_in p s.observed.count ≤ s.control.cursor + (17 - s.observed.count)
    rows_few BeforeMatch = omega arith
    rows_few ObsQueued = omega arith
    rows_few AwaitDecision = omega arith
    rows_few Terminal = omega arith

    events-few : (p : Phase) → events_in p s.observed.count ≤ 17 + 25 * (16 - s.observed.count)
    events-few BeforeMatch = omega arith
    events-few ObsQueued = omega arith
    events-few AwaitDecision = omega arith
    events-few Terminal = omega arith

-- a halt leaves cursor and messages
module _ {a b w n : ℕ} (r : Run) (g : Within (Reached a b w) n (Far a b w) r) where
  answer-reached : Reached a b w (answer r).state
  unfolding answer
  answer-reached = let z = end_out (λ s z. z) (λ m s f. far-reached s f) g in go r.outcome z
    where
      go : (o : Outcome) → Reached a b w r.state → Reached a b w (answer_on o r.state r.events).state
      go ran z = z
      go left z = z
      go (halt h) z = record { low = z.low; high = z.high; light = z.light }
      go (ended ms) z = z

phases-far : (c : Config) (rows : List ℕ) (s : KernelState) → Fitting s
    → Within (Reached s.control.cursor (s.control.cursor + (17 - s.observed.count)) (msgs_events s.msgs)) (raised_from s) (Far s.control.cursor (s.control.cursor + (17 - s.observed.count)) (msgs_events s.msgs)) (phases c rows s)
unfolding phases
phases-far c rows s f = iter_in (phase_turn c rows) (turn-far c rows) (suc (turns rows s)) (raised_from s) s (start-far s f)

-- ---- what is claimed of every call
record Bounded (s : KernelState) (a : Answer) : Type 0 where
  reached : Reached s.control.cursor (s.control.cursor + (17 - s.observed.count)) (msgs_events s.msgs) a.state
  few : length a.events ≤ raised_from s + 1
  by_messages : length a.events ≤ msgs_events s.msgs + 442
  most : length a.events ≤ 522
  beyond : 512 < length a.events → (s.observed.count ≡ 0) × (94 < queued_events s)

-- a refused call leaves the state and raises nothing
refused_bounded : (r : ℕ) (s : KernelState) → Bounded s (refuse r s)
refused_bounded r s = record { reached = record { low = omega arith; high = omega arith; light = omega arith }; few = omega arith; by_messages = omega arith; most = omega arith; beyond = λ b. absurd (omega arith) }

call_bounded : (c : Config) (rows : List ℕ) (s : KernelState) → Bounded s (advance c rows s)
call_bounded c rows s = advance_case (Bounded s) c rows s
    (λ e.
    let f = counts-fitting s e in
    let g = phases-far c rows s f in
    let n = answer-few (raised_from s) (phases c rows s) (omega (arith, g.few)) in
    let w = few-msgs s f in
    record { reached = answer-reached (phases c rows s) g; few = n; by_messages = omega arith; most = omega arith; beyond = λ b. omega arith })
    (λ n. refused_bounded n s)

pub how_far : (c : Config) (rows : List ℕ) (s : KernelState) → HowFar c rows s
how_far c rows s = let g = call_bounded c rows s in record { least = g.reached.low; most = g.reached.high }

pub few-events : (c : Config) (rows : List ℕ) (s : KernelState) → FewEvents c rows s
few-events c rows s = let g = call_bounded c rows s in record { by_queues = omega (arith, g.few); by_messages = g.by_messages; most = g.most; beyond = g.beyond; lighter = g.reached.light }
