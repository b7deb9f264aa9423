-- What is so between two turns: what the queues can raise is paid for. The walk keeps it. Assumes nothing.
use Prim.Native.Nat.{ℕ, suc, ◌+◌, ◌-◌, ◌≤◌}
use mathlib.Core.Path.{refl}
use native.Mathlib.Omega.{arith}
use Rattle.book.specs.declared.MsgKind.{MsgKind}
use Rattle.book.specs.declared.MsgKind.TheVariants.{Cancel, Activate, Expire}
use Rattle.book.specs.declared.config.Config.{Config}
use Rattle.state.specs.declared.Control.{Control}
use Rattle.state.specs.declared.KernelEvent.{KernelEvent}
use Rattle.state.specs.declared.KernelState.{KernelState}
use Rattle.rules.specs.Run.{raised}
use Rattle.rules.specs.Messages.{apply_next_msg}
use Rattle.rules.specs.Delivery.{deliver_next}
use Rattle.rules.specs.Events.{pop_observation, Class, venue, delivery, observation, Next, nothing, next, next_of, clock_to, handle, turn_on, event_turn, weight, run_events}
use Rattle.rules.specs.FewEvents.{raisable_kind, msgs_events, queued_events}
use Rattle.rules.proofs.Loop.{run_of}
use Rattle.rules.proofs.Bounded.{Within, ran_in, raised_in, left_in, pick_in, taking_in, map_in, iter_in}
use Rattle.rules.proofs.Costs.{Stands, Stops, as_is, less, stops, deliver_in, raises, adds, raises-most, Acted, acted, message_in}
use Rattle.rules.proofs.Falls.{Due, NextDue, next-ok}

-- what the queues can raise is paid for, and j events more; the deliveries and the messages are those of the state itself
abbrev pub Paid : Control → ℕ → ℕ → ℕ → ℕ → ℕ → KernelState → Type 0
Paid k h o w j n s = Stands raisable_kind k h o w 0 s.deliveries.count (queued_events s + j) n s

-- what a message raises itself, the event of its delivery and what the message that it adds can raise are no more than it can raise
raises-few : (x : MsgKind) → raises x + 1 + adds raisable_kind x ≤ 2 + raisable_kind x
raises-few (Cancel id) = omega arith
raises-few (Activate o life) = omega arith
raises-few (Expire id) = omega arith

-- a lighter bound on the messages
pub stops_on : {k : Control} {v w : ℕ} (s : KernelState) → v ≤ w → Stops raisable_kind k v s → Stops raisable_kind k w s
stops_on s a z = record { cursor = z.cursor; row = z.row; light = omega (arith, z.light) }

module _ {k : Control} {h o w : ℕ} where
  -- a turn begins: no message is let in but for those that leave
  pub opened : {n : ℕ} (j : ℕ) (s : KernelState) → Paid k h o w j n s → Stands raisable_kind k h o (msgs_events s.msgs) 0 s.deliveries.count (queued_events s + j) n s
  opened j s g = record { at = g.at; room = g.room; few = g.few; seen = g.seen; light = omega arith; held = g.held; spare = g.spare }

  -- a turn ends: what it left of the messages and of the events to spare pays for its deliveries
  pub closed : {v e d i n : ℕ} (j : ℕ) (s : KernelState) → v ≤ w → v + d + j ≤ i + e → Stands raisable_kind k h o v e d i n s → Paid k h o w j n s
  closed j s a b g = record { at = g.at; room = g.room; few = g.few; seen = g.seen; light = omega (arith, g.light); held = omega arith; spare = omega (arith, g.light, g.held, g.spare) }

  -- fewer are paid for
  pub pays_less : {n : ℕ} (i j : ℕ) (s : KernelState) → j ≤ i → Paid k h o w i n s → Paid k h o w j n s
  pays_less i j s a g = less 0 s.deliveries.count (queued_events s + j) (omega arith) g

  -- one of those is raised
  pub raise_paid : (j : ℕ) {n : ℕ} (x : KernelEvent) (s : KernelState) → Paid k h o w (j + 1) n s → Within (Stops raisable_kind k w) n (Paid k h o w j) (raised x s)
  raise_paid j {n} x s g =
      raised_in (n - 1) (omega (arith, g.spare)) (record { at = g.at; room = g.room; few = g.few; seen = g.seen; light = g.light; held = g.held; spare = omega (arith, g.spare) })

  -- ---- an event of the walk
  -- the first delivery leaves, if there is one
  pub deliver_paid : (j : ℕ) {n : ℕ} (s : KernelState) → Paid k h o w j n s → Within (Stops raisable_kind k w) n (Paid k h o w j) (deliver_next s)
  deliver_paid j {n} s g =
      let d : ℕ = s.deliveries.count - 1 in
      let i : ℕ = msgs_events s.msgs + d + j in
      map_in {P = Paid k h o w j} (λ u y. stops_on u (omega (arith, g.light)) y) (λ m u y. y)
      (deliver_in {e = 0} {d = d} i s (λ a. less 0 (d + 1) (i + 1) (omega arith) (opened j s g)) (λ m u y. closed j u (omega (arith, g.light)) (omega arith) y) (λ _. g))

  -- the first message leaves, then acts
  message_paid : (j : ℕ) {n : ℕ} (c : Config) (s : KernelState) → Due venue s → Paid k h o w j n s → Within (Stops raisable_kind k w) n (Paid k h o w j) (apply_next_msg c s)
  message_paid j {n} c s d g =
      map_in (λ u y. stops_on u (omega (arith, g.light)) y) pays (message_in refl c s (λ x. omega (arith, raises-few x, raises-most x)) (omega (arith, d.0)) d (opened j s g))
    where
      pays : (m : ℕ) (u : KernelState) → Acted raisable_kind k h o (msgs_events s.msgs) s.deliveries.count (queued_events s + j) m u → Paid k h o w j m u
      pays m u (acted x y) = closed j u (omega (arith, g.light)) (omega (arith, raises-few x, d.0)) y

  -- j is above 0 for an observation's own event
  handle_in : (j : ℕ) {n : ℕ} (c : Config) (x : Class) (s : KernelState) → 1 ≤ j → Due x s → Paid k h o w j n s → Within (Stops raisable_kind k w) n (Paid k h o w j) (handle c x s)
  unfolding pop_observation
  handle_in j c venue s b d g = message_paid j c s d g
  handle_in j c delivery s b d g = deliver_paid j s g
  handle_in j c observation s b d g = taking_in
      (λ x l t. let z = stops g in pick_in _ (left_in (omega arith) (record { cursor = z.cursor; row = z.row; light = z.light })) (left_in (omega (arith, g.spare)) (record { cursor = z.cursor; row = z.row; light = z.light })))
      (λ e. let y = e d.1 in absurd (omega arith))

  next_in : (j : ℕ) {n : ℕ} (c : Config) (x : Class) (t : ℕ) (s : KernelState) → 1 ≤ j → Due x s → Paid k h o w j n s → Within (Stops raisable_kind k w) n (Paid k h o w j) (handle c x (clock_to t s))
  next_in j c venue t s b d g = handle_in j c venue (clock_to t s) b d g
  next_in j c delivery t s b d g = handle_in j c delivery (clock_to t s) b d g
  next_in j c observation t s b d g = handle_in j c observation (clock_to t s) b d g

  turn_in : (j : ℕ) (c : Config) (limit : ℕ) → 1 ≤ j → (n : ℕ) (s : KernelState) → Paid k h o w j n s → Within (Stops raisable_kind k w) n (Paid k h o w j) (run_of (event_turn c limit s))
  unfolding event_turn
  turn_in j c limit b n s g = go (next_of limit s) (next-ok limit s)
    where
      go : (y : Next) → NextDue s y → Within (Stops raisable_kind k w) n (Paid k h o w j) (run_of (turn_on c y s))
      go nothing d = ran_in g
      go (next x t) d = next_in j c x t s b d g

  pub walk_in : (j : ℕ) {n : ℕ} (c : Config) (limit : ℕ) (s : KernelState) → 1 ≤ j → Paid k h o w j n s → Within (Stops raisable_kind k w) n (Paid k h o w j) (run_events c limit s)
  unfolding run_events
  walk_in j {n} c limit s b g = iter_in (event_turn c limit) (turn_in j c limit b) (suc (weight s)) n s g

-- what a state can pay by itself
pub own : (j : ℕ) (s : KernelState) → Paid s.control (8 + s.orders.count) s.observed.count (msgs_events s.msgs) j (queued_events s + j) s
own j s = as_is (queued_events s + j) s
