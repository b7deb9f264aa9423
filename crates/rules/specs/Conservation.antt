-- 'Conservation', demand 3: what is claimed of every list of calls. The proof is proofs/Conservation.antt.
use Rattle.std.specs.Prelude.{ℕ, ◌+◌, false, List, [], ◌∷◌, ◌≡◌, pos, ◌-ℤ◌, Option, Some, None}
use Rattle.lists.specs.Lists.{below, total}
use Rattle.book.specs.Entries.{on_side, remaining, is_terminal}
use Rattle.book.specs.declared.Delivery.{Delivery}
use Rattle.book.specs.declared.MsgKind.{MsgKind}
use Rattle.book.specs.declared.MsgKind.TheVariants.{Cancel, Activate, Expire}
use Rattle.book.specs.declared.Side.{Side}
use Rattle.book.specs.declared.Side.TheVariants.{Buy, Sell}
use Rattle.book.specs.declared.VenueMsg.{VenueMsg}
use Rattle.book.specs.declared.VenueOrder.{VenueOrder}
use Rattle.book.specs.declared.config.Config.{Config}
use Rattle.state.specs.declared.KernelState.{KernelState}
use Rattle.rules.specs.Messages.{live_lots}
use Rattle.rules.specs.Calls.{Did, refused, stays, halts, ends, Answer, advance, pass, Result, returned}
use Rattle.book.specs.declared.FillRec.{FillRec}

-- ---- "Sums are whole numbers over the slots below the counts"
-- "booked is being in orders"
abbrev pub booked : KernelState → List VenueOrder
booked s = below s.orders

-- queued messages
abbrev pub queued : KernelState → List VenueMsg
queued s = below s.msgs

-- the deliveries that are to come
abbrev pub undelivered : KernelState → List Delivery
undelivered s = below s.deliveries

-- n, if it is of side d
abbrev pub of_side : Side → Side → ℕ → ℕ
of_side Buy side n = on_side side n 0
of_side Sell side n = on_side side 0 n

-- the remaining lots of an order of side d
abbrev pub lots_on : Side → VenueOrder → ℕ
lots_on d o = of_side d o.side (remaining o)

-- the remaining lots of the order of side d that an activation carries
abbrev pub carried_by : Side → MsgKind → ℕ
carried_by d (Cancel id) = 0
carried_by d (Activate o life) = lots_on d o
carried_by d (Expire id) = 0

-- the same of a message
abbrev pub carried_on : Side → VenueMsg → ℕ
carried_on d m = carried_by d m.kind

-- the lots of a fill of side d that is not delivered: "an undelivered fill a record in deliveries"
abbrev pub recorded_by : Side → Option FillRec → ℕ
recorded_by d None = 0
recorded_by d (Some f) = of_side d f.side f.qty

-- the same of a delivery
abbrev pub recorded_on : Side → Delivery → ℕ
recorded_on d x = recorded_by d x.fill

-- P of each entry
unfoldable pub Each : {A : Type 0} → (A → Type 0) → List A → Type 0
Each P [] = Unit {0}
Each P (x ∷ l) = P x × Each P l

-- ---- the three properties
pub record Conserved (s : KernelState) : Type 0 where
  -- "on each side the live lots equal the remaining lots of booked orders and of orders that queued activation messages carry"
  pub lots : (d : Side) → live_lots d s.gate ≡ total (lots_on d) (booked s) + total (carried_on d) (queued s)
  -- "no booked order is terminal"
  pub open_orders : Each (λ (o : VenueOrder). is_terminal o.state ≡ false) (booked s)
  -- "venue position minus agent position equals buys minus sells among undelivered fills"
  pub positions : s.gate.venue_pos.lots -ℤ s.agent.pos.lots ≡ pos (total (recorded_on Buy) (undelivered s)) -ℤ pos (total (recorded_on Sell) (undelivered s))

-- after end of data, where these messages were dropped
pub record Closed (dropped : List VenueMsg) (s : KernelState) : Type 0 where
  -- "both positions are equal"
  pub positions : s.gate.venue_pos.lots ≡ s.agent.pos.lots
  -- "each side's live lots exceed its booked remaining lots by exactly the remaining lots of that side's activations dropped there"
  pub lots : (d : Side) → live_lots d s.gate ≡ total (lots_on d) (booked s) + total (carried_on d) dropped

-- ---- "every list of calls of `advance` and `pass` from it, refused ones included, each given the state the last one returned and any configuration, rows and log of its own"
pub data Call : Type 0 where
  advances : Config → List ℕ → List ℕ → Call
  passes : Call

-- what the rules give for a call
abbrev pub answer_to : Call → KernelState → Answer
answer_to (advances c rows log) s = advance c rows s
answer_to passes s = pass s

-- the log that it is lent
abbrev pub lent_to : Call → List ℕ
lent_to (advances c rows log) = log
lent_to passes = []

-- what it returns, as the contracts of `advance` and `pass` say it
abbrev pub result : Call → KernelState → Result
result c s = returned (lent_to c) (answer_to c s)

-- P after each of these calls
unfoldable pub AfterEach : (KernelState → Type 0) → List Call → KernelState → Type 0
AfterEach P [] s = Unit {0}
AfterEach P (c ∷ cs) s = P (result c s).state × AfterEach P cs (result c s).state

-- what is claimed after a call that did this and left s, with the calls cs behind it, of which Rest is claimed
abbrev pub After : Did → KernelState → List Call → Type 0 → Type 0
After (refused r) s cs Rest = Conserved s × Rest
After stays s cs Rest = Conserved s × Rest
-- after the first that halts nothing more is claimed
After (halts h) s cs Rest = Unit {0}
-- "after it and after every later call of the list"
After (ends dropped) s cs Rest = Closed dropped s × AfterEach (Closed dropped) cs s

-- the claim about a list of calls from s: "all three hold after each call before the first that halts or reaches end of data. .."
unfoldable pub Claim : List Call → KernelState → Type 0
Claim [] s = Unit {0}
Claim (c ∷ cs) s = After (answer_to c s).did (result c s).state cs (Claim cs (result c s).state)
