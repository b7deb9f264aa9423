-- The entries of the lists: their blanks, and what is asked of one.
use Rattle.std.specs.Prelude.{ℕ, ◌-◌, Bool, true, false, not, ◌&&◌, ltb, eqb, None}
use Rattle.numbers.specs.Choice.{pick}
use Rattle.book.specs.declared.Side.{Side}
use Rattle.book.specs.declared.Side.TheVariants.{Buy, Sell}
use Rattle.book.specs.declared.OrderState.{OrderState}
use Rattle.book.specs.declared.OrderState.TheVariants as order
use Rattle.book.specs.declared.ExecKind.TheVariants as exec
use Rattle.book.specs.declared.Origin.TheVariants as origin
use Rattle.book.specs.declared.MsgKind.{MsgKind}
use Rattle.book.specs.declared.MsgKind.TheVariants.{Cancel, Activate, Expire}
use Rattle.book.specs.declared.VenueOrder.{VenueOrder}
use Rattle.book.specs.declared.VenueMsg.{VenueMsg}
use Rattle.book.specs.declared.Delivery.{Delivery}
use Rattle.book.specs.declared.ObsEntry.{ObsEntry}
use Rattle.book.specs.declared.OpenOrder.{OpenOrder}

-- ---- "An emptied slot becomes blank: zeros, false, first cases, none, Cancel of 0"
abbrev pub blank_order : VenueOrder
blank_order = record { id = 0; side = Buy; price = 0; qty = 0; filled = 0; state = order.Submitted; active_after_ns = 0; cancel_inflight = false }

abbrev pub blank_msg : VenueMsg
blank_msg = record { eff_ns = 0; seq = 0; kind = Cancel 0 }

abbrev pub blank_delivery : Delivery
blank_delivery = record {
  at_ns = 0;
  report = record { ts_ns = 0; seq = 0; order_id = 0; side = Buy; kind = exec.Accepted; origin = origin.Local; cancel_pending = false; price = 0; qty = 0; last = 0; cum = 0 };
  fill = None;
}

abbrev pub blank_obs : ObsEntry
blank_obs = record { ready_ns = 0; row = 0 }

abbrev pub blank_open : OpenOrder
blank_open = record { order_id = 0; awaiting_cancel_outcome = false }

-- ---- of an order
-- one of two, by the side
unfoldable pub on_side : {A : Type 0} → Side → A → A → A
on_side Buy a b = a
on_side Sell a b = b

-- "Remaining lots, qty less filled, not below 0"
abbrev pub remaining : VenueOrder → ℕ
remaining o = o.qty - o.filled

-- "Terminal orders (Filled, Canceled, Rejected)"
abbrev pub is_terminal : OrderState → Bool
is_terminal order.Submitted = false
is_terminal order.Active = false
is_terminal order.Filled = true
is_terminal order.Canceled = true
is_terminal order.Rejected = true

abbrev pub is_active : OrderState → Bool
is_active order.Submitted = false
is_active order.Active = true
is_active order.Filled = false
is_active order.Canceled = false
is_active order.Rejected = false

-- the order in another state
abbrev pub in_state : VenueOrder → OrderState → VenueOrder
in_state o st = record { id = o.id; side = o.side; price = o.price; qty = o.qty; filled = o.filled; state = st; active_after_ns = o.active_after_ns; cancel_inflight = o.cancel_inflight }

-- "Searches by order number take the first that fits": booked, which is to have the number and not be terminal; awaiting, to have the number
abbrev pub is_open : ℕ → VenueOrder → Bool
is_open id o = eqb o.id id && not (is_terminal o.state)

abbrev pub has_id : ℕ → VenueOrder → Bool
has_id id o = eqb o.id id

-- "Awaiting is ordered by id, an equal id after"
abbrev pub id_above : ℕ → VenueOrder → Bool
id_above id o = ltb id o.id

-- ---- of a message
-- "before the first with a greater pair": the pair (eff_ns, seq) of m is greater than (t, q)
abbrev pub is_later : ℕ → ℕ → VenueMsg → Bool
is_later t q m = pick (eqb m.eff_ns t) (ltb q m.seq) (ltb t m.eff_ns)

abbrev pub activates : ℕ → MsgKind → Bool
activates id (Cancel i) = false
activates id (Activate o life) = eqb o.id id
activates id (Expire i) = false

abbrev pub expires : ℕ → MsgKind → Bool
expires id (Cancel i) = false
expires id (Activate o life) = false
expires id (Expire i) = eqb i id

abbrev pub is_activation : ℕ → VenueMsg → Bool
is_activation id m = activates id m.kind

abbrev pub is_expiry : ℕ → VenueMsg → Bool
is_expiry id m = expires id m.kind

-- ---- of an account entry
abbrev pub is_open_of : ℕ → OpenOrder → Bool
is_open_of id a = eqb a.order_id id
