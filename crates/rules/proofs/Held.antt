-- What is held inside a call: the three properties with lots that are on their way from one list to another, and the gate's part in them. Assumes nothing.
use Rattle.numbers.specs.Choice.{on_some}
use Prim.Native.Nat.{ℕ, ◌+◌, ◌-◌, ◌≤◌}
use mathlib.Core.Bool.{Bool, true, false}
use mathlib.Core.List.{List}
use mathlib.Core.Path.{◌≡◌, refl}
use native.Mathlib.Omega.{arith}
use borrow.Author.Tests.{ltb-false}
use lib.Dec.{ltb}
use lib.IntN.{ℤ}
use Rattle.lists.specs.Lists.{below, total}
use Rattle.lists.proofs.Cases.{pick_case}
use Rattle.book.specs.Entries.{blank_order, on_side, remaining, is_terminal}
use Rattle.book.specs.declared.Side.{Side}
use Rattle.book.specs.declared.Side.TheVariants.{Buy, Sell}
use Rattle.book.specs.declared.VenueMsg.{VenueMsg}
use Rattle.book.specs.declared.VenueOrder.{VenueOrder}
use Rattle.state.specs.declared.GateState.{GateState}
use Rattle.state.specs.declared.KernelState.{KernelState}
use Rattle.state.specs.declared.Phase.TheVariants.{Terminal}
use Rattle.rules.specs.Run.{Run}
use Rattle.rules.specs.Messages.{released}
use Rattle.rules.specs.Matching.{gate_filled}
use Rattle.rules.specs.Conservation.{of_side, lots_on, carried_on, recorded_on, Closed}
use Rattle.rules.proofs.Cases.{moved_by, moved_case}
use Rattle.rules.proofs.Positions.{Balanced}
use Rattle.rules.proofs.Kept.{Kept}
use Rattle.deliveries.specs.Rows.{Deliveries}
use Rattle.msgs.specs.Rows.{Msgs}
use Rattle.orders.specs.Rows.{Orders}

-- n where b
abbrev pub when : Bool → ℕ → ℕ
when true n = n
when false n = 0

-- "no booked order is terminal", as a sum that is 0
abbrev pub over : VenueOrder → ℕ
over o = when (is_terminal o.state) 1

-- a terminal order has no lots left, as a sum that is 0
abbrev pub over_lots : VenueOrder → ℕ
over_lots o = when (is_terminal o.state) (remaining o)

-- no lots of either side
abbrev pub nil : Side → ℕ
nil x = 0

-- `unplaced` lots of each side are live, and neither booked nor queued. `unreported` lots of each side are filled, and in no delivery yet. t of the booked orders is 0.
pub record HeldBy (t : VenueOrder → ℕ) (unplaced unreported : Side → ℕ) (venue agent : ℤ) (buy sell : ℕ) (os : Orders) (ms : Msgs) (ds : Deliveries) : Type 0 where
  pub lots : (x : Side) → on_side x buy sell ≡ unplaced x + (total (lots_on x) (below os) + total (carried_on x) (below ms))
  pub no_terminal : total t (below os) ≡ 0
  pub balanced : Balanced venue agent (unreported Buy + total (recorded_on Buy) (below ds)) (unreported Sell + total (recorded_on Sell) (below ds))
  pub few_orders : os.count ≤ 8
  pub few_msgs : ms.count ≤ 16
  pub few_deliveries : ds.count ≤ 24

-- only these parts of the state matter: a step that leaves them keeps it as it stands
abbrev pub Held : (VenueOrder → ℕ) → (Side → ℕ) → (Side → ℕ) → KernelState → Type 0
Held t unplaced unreported s =
    HeldBy t unplaced unreported s.gate.venue_pos.lots s.agent.pos.lots s.gate.live_buy_lots s.gate.live_sell_lots s.orders s.msgs s.deliveries

-- between two steps
abbrev pub Inv : KernelState → Type 0
Inv s = Held over nil nil s

-- inside a pass of matching
abbrev pub Mid : KernelState → Type 0
Mid s = Held over_lots nil nil s

abbrev pub AtEnd : List VenueMsg → KernelState → Type 0
AtEnd dropped s = Closed dropped s × (s.control.phase ≡ Terminal)

-- a run after which P holds; where the walk was left, what holds between two steps; where the data ended, what is claimed of that
abbrev pub Good : (KernelState → Type 0) → Run → Type 0
Good P r = Kept Inv AtEnd P r

-- ---- lots of a side
pub blank_lots : (x : Side) → lots_on x blank_order ≡ 0
unfolding on_side
blank_lots Buy = refl
blank_lots Sell = refl

pub no-lots : (x d : Side) (n : ℕ) → n ≡ 0 → of_side x d n ≡ 0
unfolding on_side
no-lots Buy Buy n z = z
no-lots Buy Sell n z = refl
no-lots Sell Buy n z = refl
no-lots Sell Sell n z = z

pub split_lots : (x d : Side) (n a b : ℕ) → a ≡ n + b → of_side x d a ≡ of_side x d n + of_side x d b
unfolding on_side
split_lots Buy Buy n a b e = e
split_lots Buy Sell n a b e = refl
split_lots Sell Buy n a b e = refl
split_lots Sell Sell n a b e = e

-- ---- the gate
-- the gate with a position and live lots
abbrev pub gate_with : GateState → ℤ → ℕ → ℕ → GateState
gate_with g p buy sell = record { venue_pos = record { lots = p }; live_buy_lots = buy; live_sell_lots = sell; mark2 = g.mark2 }

-- from the live lots of g to these, n lots of side d have gone
abbrev pub Gone : Side → ℕ → GateState → ℕ → ℕ → Type 0
Gone d n g buy sell = (x : Side) → on_side x g.live_buy_lots g.live_sell_lots ≡ of_side x d n + on_side x buy sell

module _ {B : Type 0} (P : B → Type 0) where
  pub released_case : (d : Side) (n : ℕ) (g : GateState) (k : GateState → B) (z : B)
      → ((buy sell : ℕ) → Gone d n g buy sell → P (k (gate_with g g.venue_pos.lots buy sell))) → P z → P (on_some (released d n g) k z)
  unfolding released on_side on_some
  released_case Buy n g k z h q = pick_case (λ o. P (on_some o k z)) (ltb g.live_buy_lots n) _ _ (λ _. q) (λ e. h _ _ (go (ltb-false _ _ e)))
    where
      go : n ≤ g.live_buy_lots → Gone Buy n g (g.live_buy_lots - n) g.live_sell_lots
      go w Buy = omega arith
      go w Sell = omega arith
  released_case Sell n g k z h q = pick_case (λ o. P (on_some o k z)) (ltb g.live_sell_lots n) _ _ (λ _. q) (λ e. h _ _ (go (ltb-false _ _ e)))
    where
      go : n ≤ g.live_sell_lots → Gone Sell n g g.live_buy_lots (g.live_sell_lots - n)
      go w Buy = omega arith
      go w Sell = omega arith

  pub filled_case : (d : Side) (n : ℕ) (g : GateState) (k : GateState → B) (z : B)
      → ((buy sell : ℕ) → Gone d n g buy sell → P (k (gate_with g (moved_by d n g.venue_pos.lots) buy sell))) → P z → P (on_some (gate_filled d n g) k z)
  unfolding gate_filled on_some
  filled_case d n g k z h q = moved_case (λ o. P (on_some o k z)) d g.venue_pos n _ _ (released_case d n _ k z h q) q
