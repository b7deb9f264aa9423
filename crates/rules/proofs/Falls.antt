-- Each event makes the weight fall, for all states: the walk's fuel never runs out. Assumes nothing.
use Prim.Native.Nat.{ℕ, ◌+◌, ◌-◌, ◌≤◌, ◌<◌}
use mathlib.Core.Path.{◌≡◌, refl}
use native.Mathlib.Omega.{arith}
use lib.Dec.{leb}
use Rattle.lists.proofs.Cases.{pick_case, different}
use Rattle.lists.proofs.Sums.{entry_case}
use Rattle.book.specs.Entries.{blank_msg, blank_delivery, blank_obs}
use Rattle.book.specs.declared.MsgKind.{MsgKind}
use Rattle.book.specs.declared.MsgKind.TheVariants.{Cancel, Activate, Expire}
use Rattle.book.specs.declared.config.Config.{Config}
use Rattle.state.specs.declared.Control.{Control}
use Rattle.state.specs.declared.KernelState.{KernelState}
use Rattle.rules.specs.Run.{Run, ran, and_then, again, last}
use Rattle.rules.specs.Events.{pop_observation, Class, venue, delivery, observation, Next, nothing, next, due_by, next_msg, next_delivery, next_observation, sooner, next_of, clock_to, handle, turn_on, event_turn, extra_kind, weight, run_events}
use Rattle.rules.proofs.Loop.{run-again, run-last}
use Rattle.rules.proofs.Bounded.{Within, left_in, pick_in, taking_in, ran_out, map_in}
use Rattle.rules.proofs.Costs.{as_is, less, deliver_in, adds, Acted, acted, message_in}

-- ---- what is next has a first entry
abbrev pub Due : Class → KernelState → Type 0
Due venue s = (0 < s.msgs.count) × (s.msgs.count ≤ 16)
Due delivery s = (0 < s.deliveries.count) × (s.deliveries.count ≤ 24)
Due observation s = (0 < s.observed.count) × (s.observed.count ≤ 16)

abbrev pub NextDue : KernelState → Next → Type 0
NextDue s nothing = Unit {0}
NextDue s (next k t) = Due k s

due-ok : (limit : ℕ) (k : Class) (t : ℕ) (s : KernelState) → Due k s → NextDue s (due_by limit k t)
unfolding due_by
due-ok limit k t s d = pick_case (NextDue s) (leb t limit) _ _ (λ _. d) (λ _. tt)

sooner-ok : (s : KernelState) (a b : Next) → NextDue s a → NextDue s b → NextDue s (sooner a b)
unfolding sooner
sooner-ok s nothing b h g = g
sooner-ok s (next k t) nothing h g = h
sooner-ok s (next k t) (next j u) h g = pick_case (NextDue s) (leb t u) _ _ (λ _. h) (λ _. g)

pub next-ok : (limit : ℕ) (s : KernelState) → NextDue s (next_of limit s)
unfolding next_of next_msg next_delivery next_observation
next-ok limit s = sooner-ok s _ _
    (entry_case 16 (NextDue s) blank_msg 0 s.msgs _ _ (λ w z. due-ok limit venue _ s (z, w)) (λ _. tt))
    (sooner-ok s _ _
    (entry_case 24 (NextDue s) blank_delivery 0 s.deliveries _ _ (λ w z. due-ok limit delivery _ s (z, w)) (λ _. tt))
    (entry_case 16 (NextDue s) blank_obs 0 s.observed _ _ (λ w z. due-ok limit observation _ s (z, w)) (λ _. tt)))

-- ---- an event that ran leaves a state of less weight
adds-few : (x : MsgKind) → adds extra_kind x ≤ extra_kind x
adds-few (Cancel id) = omega arith
adds-few (Activate o life) = omega arith
adds-few (Expire id) = omega arith

-- the message that acted weighed 2 more than what it added, and sent one delivery at most
acted-falls : {k : Control} {h o w d j n : ℕ} (s : KernelState) → Acted extra_kind k h o w d j n s → weight s < w + d + o
unfolding weight
acted-falls s (acted x g) = omega (arith, adds-few x, g.light, g.held, g.seen)

-- an event that ran made it fall: a pause did not run
handle_falls : (c : Config) (x : Class) (t : ℕ) (s : KernelState) → Due x s → Within (λ _. Unit {0}) 2 (λ _ u. weight u < weight s) (handle c x (clock_to t s))
unfolding weight pop_observation
handle_falls c venue t s d = map_in (λ _ _. tt) (λ _ u y. acted-falls u y) (message_in refl c (clock_to t s) adds-few (omega arith) d (as_is 2 (clock_to t s)))
handle_falls c delivery t s d =
    map_in (λ _ _. tt) (λ _ _ y. y)
    (deliver_in {f = extra_kind} {P = λ _ u. weight u < weight s} 1 (clock_to t s) (λ _. less 0 (s.deliveries.count - 1 + 1) 2 (omega arith) (as_is 2 (clock_to t s)))
    (λ _ _ y. omega (arith, y.light, y.held, y.seen)) (λ e. let y = e d.1 in absurd (omega arith)))
handle_falls c observation t s d = taking_in (λ _ _ _. pick_in _ (left_in (omega arith) tt) (left_in (omega arith) tt)) (λ e. let y = e d.1 in absurd (omega arith))

pub event_falls : (c : Config) (limit : ℕ) (s : KernelState) (r : Run) → event_turn c limit s ≡ again r → r.outcome ≡ ran → weight r.state < weight s
unfolding event_turn
event_falls c limit s r = go (next_of limit s) (next-ok limit s)
  where
    go : (y : Next) → NextDue s y → turn_on c y s ≡ again r → r.outcome ≡ ran → weight r.state < weight s
    go nothing d e q = different cc
    go (next x t) d e q = let f : handle c x (clock_to t s) ≡ r = cc in ran_out (rw f at (handle_falls c x t s d)) q

-- the walk from here is its next event, and the walk from there
pub walk_again : (c : Config) (limit : ℕ) (s : KernelState) (r : Run) → event_turn c limit s ≡ again r → run_events c limit s ≡ and_then r (run_events c limit)
unfolding run_events
walk_again c limit s r e = run-again (event_turn c limit) weight (event_falls c limit) s r e

pub walk_last : (c : Config) (limit : ℕ) (s : KernelState) (r : Run) → event_turn c limit s ≡ last r → run_events c limit s ≡ r
unfolding run_events
walk_last c limit s r e = run-last (event_turn c limit) weight (event_falls c limit) s r e
