-- What each step costs: the events that it raises, the deliveries and the messages that it leaves; and where it stops, it leaves the cursor and `cur_row`.
-- The messages are weighed: each 2, and what more its kind weighs by f. Assumes nothing.
use Rattle.std.specs.Prelude.{Option, Some, None}
use Prim.Native.Nat.{ℕ, ◌+◌, ◌-◌, ◌*◌, ◌≤◌, ◌<◌}
use mathlib.Core.Bool.{false}
use mathlib.Core.Path.{◌≡◌, refl, ap}
use native.Mathlib.Omega.{arith}
use Rattle.lists.specs.Lists.{below, total}
use Rattle.lists.proofs.Cases.{some_case}
use Rattle.lists.proofs.Sums.{Took, take_case}
use Rattle.book.specs.Entries.{blank_order, blank_msg}
use Rattle.state.specs.With.{with_orders, with_msgs, with_deliveries}
use Rattle.book.specs.declared.Delivery.{Delivery}
use Rattle.book.specs.declared.ExecKind.TheVariants as exec
use Rattle.book.specs.declared.MsgKind.{MsgKind}
use Rattle.book.specs.declared.MsgKind.TheVariants.{Cancel, Activate, Expire}
use Rattle.book.specs.declared.ReportRec.{ReportRec}
use Rattle.book.specs.declared.VenueMsg.{VenueMsg}
use Rattle.book.specs.declared.VenueOrder.{VenueOrder}
use Rattle.book.specs.declared.config.Config.{Config}
use Rattle.state.specs.declared.KernelEvent.{KernelEvent}
use Rattle.state.specs.declared.KernelState.{KernelState}
use Rattle.state.specs.declared.Control.{Control}
use Rattle.rules.specs.Run.{ran_to, raised, and_then}
use Rattle.rules.specs.Report.{stamp, delayed, push_delivery, reported, queue_delivery, report_on}
use Rattle.rules.specs.Messages.{release, await, await_marked, book, schedule, remove_expiry, schedule_expiry, accept, reject, activate, activation, cancel_booked, on_activation, cancel_activation, cancel_awaiting, cancel, expire_booked, expire, acts, apply_next_msg}
use Rattle.rules.specs.Delivery.{count_fill, move_agent, count_reject, deliver_next}
use Rattle.rules.proofs.Bounded.{Within, ran_in, raised_in, halt_in, pick_in, some_in, taking_in, putting_in, then_in, map_in}
use Rattle.book.specs.declared.FillRec.{FillRec}
use Rattle.msgs.specs.Rows.{Msgs}
use Rattle.lists.specs.declared.Arr.{Arr}

-- what a message weighs beyond 2
abbrev pub more : (MsgKind → ℕ) → VenueMsg → ℕ
more f m = f m.kind

-- what all of them weigh
abbrev pub weighed : (MsgKind → ℕ) → Msgs → ℕ
weighed f l = 2 * l.count + total (more f) (below l)

-- What is so between two steps, of the parts that matter: a step that leaves them keeps it as it stands.
-- k is the control, o the observations. No more than h orders are booked and d deliveries queued, the messages weigh e less than w, and j of the n events that may follow are to spare.
pub record StandsBy (f : MsgKind → ℕ) (k : Control) (h o w e d j n : ℕ) (control : Control) (orders : ℕ) (msgs : Msgs) (deliveries observed : ℕ) : Type 0 where
  pub at : control ≡ k
  pub room : 8 ≤ h
  pub few : orders ≤ h
  pub seen : observed ≡ o
  pub light : weighed f msgs + e ≤ w
  pub held : deliveries ≤ d
  pub spare : j ≤ n

abbrev pub Stands : (MsgKind → ℕ) → Control → ℕ → ℕ → ℕ → ℕ → ℕ → ℕ → ℕ → KernelState → Type 0
Stands f k h o w e d j n s = StandsBy f k h o w e d j n s.control s.orders.count s.msgs s.deliveries.count s.observed.count

-- What is so where a step stops: the cursor and `cur_row` are those of k, and the messages weigh no more than w.
pub record StopsBy (f : MsgKind → ℕ) (k : Control) (w : ℕ) (control : Control) (msgs : Msgs) : Type 0 where
  pub cursor : control.cursor ≡ k.cursor
  pub row : control.cur_row ≡ k.cur_row
  pub light : weighed f msgs ≤ w

abbrev pub Stops : (MsgKind → ℕ) → Control → ℕ → KernelState → Type 0
Stops f k w s = StopsBy f k w s.control s.msgs

-- what is so of a state by itself, of j events
pub as_is : {f : MsgKind → ℕ} (j : ℕ) (s : KernelState) → Stands f s.control (8 + s.orders.count) s.observed.count (weighed f s.msgs) 0 s.deliveries.count j j s
as_is j s = record { at = refl; room = omega arith; few = omega arith; seen = refl; light = omega arith; held = omega arith; spare = omega arith }

module _ {f : MsgKind → ℕ} {k : Control} {h o w : ℕ} where
  -- less is known
  pub less : {e d i n orders deliveries observed : ℕ} {control : Control} {msgs : Msgs} (a c j : ℕ) → (a ≤ e) × (d ≤ c) × (j ≤ i)
      → StandsBy f k h o w e d i n control orders msgs deliveries observed → StandsBy f k h o w a c j n control orders msgs deliveries observed
  less a c j z g = record { at = g.at; room = g.room; few = g.few; seen = g.seen; light = omega (arith, g.light, z.0); held = omega (arith, g.held, z.1); spare = omega (arith, g.spare, z.2) }

  pub stops : {e d j n orders deliveries observed : ℕ} {control : Control} {msgs : Msgs} → StandsBy f k h o w e d j n control orders msgs deliveries observed → StopsBy f k w control msgs
  stops g = record { cursor = ap (λ (y : Control). y.cursor) g.at; row = ap (λ (y : Control). y.cur_row) g.at; light = omega (arith, g.light) }

  pub raise_in : {e d n : ℕ} (j : ℕ) (x : KernelEvent) (s : KernelState) → Stands f k h o w e d (j + 1) n s → Within (Stops f k w) n (Stands f k h o w e d j) (raised x s)
  raise_in {n = n} j x s g =
      raised_in (n - 1) (omega (arith, g.spare)) (record { at = g.at; room = g.room; few = g.few; seen = g.seen; light = g.light; held = g.held; spare = omega (arith, g.spare) })

  pub stamp_in : {e d j n : ℕ} (s : KernelState) → Stands f k h o w e d j n s → Within (Stops f k w) n (Stands f k h o w e d j) (stamp s)
  unfolding stamp
  stamp_in s g = some_in _ (λ q. ran_in g) (halt_in (stops g))

  push_in : {e d j n : ℕ} (x : Delivery) (s : KernelState) → Stands f k h o w e d j n s → Within (Stops f k w) n (Stands f k h o w e (d + 1) j) (push_delivery x s)
  unfolding push_delivery
  push_in x s g = putting_in _ _ s
      (λ l a. record { at = g.at; room = g.room; few = g.few; seen = g.seen; light = g.light; held = omega (arith, g.held, a.one_more); spare = g.spare }) (stops g)

  pub report_in : {e d n : ℕ} (j : ℕ) (c : Config) (r : ReportRec) (y : Option FillRec) (s : KernelState) → Stands f k h o w e d (j + 1) n s → Within (Stops f k w) n (Stands f k h o w e (d + 1) j) (queue_delivery c r y s)
  unfolding queue_delivery reported delayed
  report_in j c r y s g = then_in (some_in _ (λ at. raise_in j _ _ g) (halt_in (stops g))) (λ m t g. push_in _ t g)

  -- ---- the lists of orders and messages
  release_in : {e d j n : ℕ} (x : VenueOrder) (s : KernelState) → Stands f k h o w e d j n s → Within (Stops f k w) n (Stands f k h o w e d j) (release x s)
  unfolding release
  release_in x s g = some_in _ (λ _. ran_in g) (halt_in (stops g))

  pub await_in : {e d j n : ℕ} (x : VenueOrder) (s : KernelState) → Stands f k h o w e d j n s → Within (Stops f k w) n (Stands f k h o w e d j) (await_marked x s)
  unfolding await_marked await
  await_in x s g = pick_in _ (putting_in _ _ s (λ l a. g) (stops g)) (ran_in g)

  book_in : {e d j n : ℕ} (x : VenueOrder) (s : KernelState) → Stands f k h o w e d j n s → Within (Stops f k w) n (Stands f k h o w e d j) (book x s)
  unfolding book
  book_in x s g = putting_in _ _ s
      (λ l a. record { at = g.at; room = g.room; few = omega (arith, g.room, a.room); seen = g.seen; light = g.light; held = g.held; spare = g.spare }) (stops g)

  expiry_in : {d j n : ℕ} (e : ℕ) (at : Option ℕ) (id : ℕ) (s : KernelState) → Stands f k h o w (e + (2 + f (Expire id))) d j n s → Within (Stops f k w) n (Stands f k h o w e d j) (schedule_expiry at id s)
  unfolding schedule_expiry schedule
  expiry_in {d} {j} e at id s g = some_in at
      (λ _. some_in _
      (λ q. putting_in _ _ _ (λ l a. record { at = g.at; room = g.room; few = g.few; seen = g.seen; light = omega (arith, g.light, a.one_more, a.sums (more f)); held = g.held; spare = g.spare }) (stops g))
      (halt_in (stops g)))
      (ran_in (less e d j (omega arith) g))

  pub fewer_in : {e d j n i : ℕ} (s : KernelState) (x : VenueOrder) (l : Arr VenueOrder 8) → Took 8 blank_order i s.orders x l → Stands f k h o w e d j n s → Stands f k h o w e d j n (with_orders s l)
  fewer_in s x l t g = record { at = g.at; room = g.room; few = omega (arith, g.few, t.one_less); seen = g.seen; light = g.light; held = g.held; spare = g.spare }

  -- ---- a delivery
  move_in : {e d j n : ℕ} (y : Option FillRec) (s : KernelState) → Stands f k h o w e d j n s → Within (Stops f k w) n (Stands f k h o w e d j) (move_agent y s)
  unfolding count_fill
  move_in None s g = ran_in g
  move_in (Some r) s g = some_in _ (λ q. some_in _ (λ _. ran_in g) (halt_in (stops g))) (halt_in (stops g))

  count_in : {e d j n : ℕ} (r : ReportRec) (s : KernelState) → Stands f k h o w e d j n s → Within (Stops f k w) n (Stands f k h o w e d j) (count_reject r s)
  unfolding count_reject
  count_in r s g = pick_in _ (pick_in _ (some_in _ (λ _. ran_in g) (halt_in (stops g))) (ran_in g)) (ran_in g)

  -- the first delivery leaves, with its event
  pub deliver_in : {P : ℕ → KernelState → Type 0} {e d n : ℕ} (j : ℕ) (s : KernelState) → (0 < s.deliveries.count → Stands f k h o w e (d + 1) (j + 1) n s)
      → ((m : ℕ) (t : KernelState) → Stands f k h o w e d j m t → P m t) → ((s.deliveries.count ≤ 24 → s.deliveries.count ≤ 0) → P n s) → Within (Stops f k w) n P (deliver_next s)
  unfolding deliver_next
  deliver_in {e = e} {d = d} {n = n} j s g p q = taking_in
      (λ x l t.
      let a = g (omega (arith, t.one_less)) in
      let y : Stands f k h o w e d (j + 1) n (with_deliveries s l)
      = record { at = a.at; room = a.room; few = a.few; seen = a.seen; light = a.light; held = omega (arith, a.held, t.one_less); spare = a.spare } in
      map_in (λ u z. z) p (then_in (raise_in j _ _ y) (λ m u z. then_in (move_in x.fill u z) (λ m v z. then_in (count_in _ v z) (λ m y z. ran_in z)))))
      (λ e. ran_in (q e))

-- the events that a message raises itself, its report among them
abbrev pub raises : MsgKind → ℕ
raises (Cancel id) = 1
raises (Activate x life) = 1
raises (Expire id) = 2

-- what it adds to the messages: an activation the expiry of its order
abbrev pub adds : (MsgKind → ℕ) → MsgKind → ℕ
adds f (Cancel id) = 0
adds f (Activate x life) = 2 + f (Expire x.id)
adds f (Expire id) = 0

-- the first message has acted: of what it weighed all that it did not add is gone, of j events to spare those that it raised, and it sent one delivery at most
pub data Acted (f : MsgKind → ℕ) (k : Control) (h o w d j n : ℕ) (s : KernelState) : Type 0 where
  acted : (x : MsgKind) → Stands f k h o w (2 + f x - adds f x) (d + 1) (j - raises x) n s → Acted f k h o w d j n s

pub raises-most : (x : MsgKind) → (1 ≤ raises x) × (raises x ≤ 2)
raises-most (Cancel id) = omega arith
raises-most (Activate x life) = omega arith
raises-most (Expire id) = omega arith

-- a blank weighs 2
module _ {f : MsgKind → ℕ} {k : Control} {h o w : ℕ} (blank : f (Cancel 0) ≡ 0) where
  -- a message came out: with it goes what it weighed
  out_in : {e d j n i : ℕ} (s : KernelState) (m : VenueMsg) (l : Arr VenueMsg 16) → Took 16 blank_msg i s.msgs m l → Stands f k h o w e d j n s
      → Stands f k h o w (e + (2 + more f m)) d j n (with_msgs s l)
  out_in s m l t g = record { at = g.at; room = g.room; few = g.few; seen = g.seen; light = omega (arith, g.light, t.one_less, t.sums (more f) blank); held = g.held; spare = g.spare }

  pub removed_in : {e d j n : ℕ} (id : ℕ) (s : KernelState) → Stands f k h o w e d j n s → Stands f k h o w e d j n (remove_expiry id s)
  unfolding remove_expiry
  removed_in {e} {d} {j} {n} id s g = some_case (Stands f k h o w e d j n) _ _ _
      (λ i _. take_case 16 (λ t. Stands f k h o w e d j n (with_msgs s t.list)) blank_msg i s.msgs (λ m l t. less e d j (omega arith) (out_in s m l t g)) (λ _. g))
      (λ _. g)

  -- ---- what a message does: it sends one delivery at most
  accept_in : {d n : ℕ} (e j : ℕ) (c : Config) (x : VenueOrder) (at : Option ℕ) (s t : KernelState) → Stands f k h o w (e + (2 + f (Expire x.id))) d (j + 1) n t → Within (Stops f k w) n (Stands f k h o w e (d + 1) j) (accept c x at s t)
  unfolding accept
  accept_in e j c x at s t g = then_in (report_in j c _ _ t g) (λ m u g. then_in (book_in x u g) (λ m v g. expiry_in e at _ v g))

  reject_in : {e d n : ℕ} (j : ℕ) (c : Config) (x : VenueOrder) (s t : KernelState) → Stands f k h o w e d (j + 1) n t → Within (Stops f k w) n (Stands f k h o w e (d + 1) j) (reject c x s t)
  unfolding reject
  reject_in j c x s t g = then_in (release_in _ t g) (λ m u g. then_in (report_in j c _ _ u g) (λ m v g. await_in x v g))

  activate_in : {d n : ℕ} (e j : ℕ) (c : Config) (x : VenueOrder) (at : Option ℕ) (s : KernelState) → Stands f k h o w (e + (2 + f (Expire x.id))) d (j + 1) n s → Within (Stops f k w) n (Stands f k h o w e (d + 1) j) (activate c x at s)
  unfolding activate
  activate_in {d} e j c x at s g = then_in (stamp_in s g) (λ m t g. pick_in _ (accept_in e j c _ at s t g) (reject_in j c _ s t (less e d (j + 1) (omega arith) g)))

  activation_in : {d n : ℕ} (e j : ℕ) (c : Config) (x : VenueOrder) (life : ℕ) (s t : KernelState) → Stops f k w s → Stands f k h o w (e + (2 + f (Expire x.id))) d (j + 1) n t → Within (Stops f k w) n (Stands f k h o w e (d + 1) j) (activation c x life s t)
  unfolding activation
  activation_in e j c x life s t z g = pick_in _ (some_in _ (λ at. pick_in _ (activate_in e j c x _ t g) (halt_in z)) (halt_in z)) (activate_in e j c x _ t g)

  cancel_booked_in : {e d n : ℕ} (j : ℕ) (c : Config) (s : KernelState) (i : ℕ) (t : KernelState) → Stands f k h o w e d (j + 1) n t → Within (Stops f k w) n (Stands f k h o w e (d + 1) j) (cancel_booked c s i t)
  unfolding cancel_booked
  cancel_booked_in {e} {d} j c s i t g = taking_in
      (λ x l q. then_in (release_in x _ (fewer_in t x l q g)) (λ m u g. report_in j c _ _ _ (removed_in x.id _ g)))
      (λ _. ran_in (less e (d + 1) j (omega arith) g))

  cancel_pending_in : {e d n : ℕ} (j : ℕ) (c : Config) (s : KernelState) (i : ℕ) (t : KernelState) → Stands f k h o w e d (j + 1) n t → Within (Stops f k w) n (Stands f k h o w e (d + 1) j) (cancel_activation c s i t)
  unfolding cancel_activation
  cancel_pending_in {e} {d} {n} j c s i t g = taking_in
      (λ m l q. go m.kind (with_msgs t l) (less e d (j + 1) (omega arith) (out_in t m l q g)))
      (λ _. ran_in (less e (d + 1) j (omega arith) g))
    where
      go : (m : MsgKind) (u : KernelState) → Stands f k h o w e d (j + 1) n u
          → Within (Stops f k w) n (Stands f k h o w e (d + 1) j) (on_activation m (λ x. and_then (release x u) (queue_delivery c (report_on s x exec.Canceled false 0) None)) (ran_to u))
      go (Cancel id) u g = ran_in (less e (d + 1) j (omega arith) g)
      go (Activate x life) u g = then_in (release_in x u g) (λ m v g. report_in j c _ _ v g)
      go (Expire id) u g = ran_in (less e (d + 1) j (omega arith) g)

  cancel_awaiting_in : {e d n : ℕ} (j : ℕ) (c : Config) (s : KernelState) (i : ℕ) (t : KernelState) → Stands f k h o w e d (j + 1) n t → Within (Stops f k w) n (Stands f k h o w e (d + 1) j) (cancel_awaiting c s i t)
  unfolding cancel_awaiting
  cancel_awaiting_in {e} {d} j c s i t g = taking_in (λ x l q. report_in j c _ _ _ g) (λ _. ran_in (less e (d + 1) j (omega arith) g))

  cancel_in : {e d n : ℕ} (j : ℕ) (c : Config) (id : ℕ) (s : KernelState) → Stands f k h o w e d (j + 1) n s → Within (Stops f k w) n (Stands f k h o w e (d + 1) j) (cancel c id s)
  unfolding cancel
  cancel_in {e} {d} j c id s g = then_in (stamp_in s g)
      (λ m t g. some_in _ (λ i. cancel_booked_in j c s i t g)
      (some_in _ (λ i. cancel_pending_in j c s i t g)
      (some_in _ (λ i. cancel_awaiting_in j c s i t g) (ran_in (less e (d + 1) j (omega arith) g)))))

  expire_booked_in : {e d n : ℕ} (j : ℕ) (c : Config) (s : KernelState) (i : ℕ) (t : KernelState) → Stands f k h o w e d (j + 1 + 1) n t → Within (Stops f k w) n (Stands f k h o w e (d + 1) j) (expire_booked c s i t)
  unfolding expire_booked
  expire_booked_in {e} {d} j c s i t g = taking_in
      (λ x l q. then_in (release_in x _ (fewer_in t x l q g))
      (λ m u g. then_in (raise_in (j + 1) _ u g) (λ m v g. then_in (report_in j c _ _ v g) (λ m y g. await_in _ y g))))
      (λ _. ran_in (less e (d + 1) j (omega arith) g))

  expire_in : {e d n : ℕ} (j : ℕ) (c : Config) (id : ℕ) (s : KernelState) → Stands f k h o w e d (j + 1 + 1) n s → Within (Stops f k w) n (Stands f k h o w e (d + 1) j) (expire c id s)
  unfolding expire
  expire_in {e} {d} j c id s g = some_in _ (λ i. then_in (stamp_in s g) (λ m t g. expire_booked_in j c s i t g)) (ran_in (less e (d + 1) j (omega arith) g))

  -- s is the state with the message still first, t without it
  acts_in : {d n : ℕ} (e j : ℕ) (c : Config) (x : MsgKind) (s t : KernelState) → Stops f k w s → Stands f k h o w (e + adds f x) d (j + raises x) n t
      → Within (Stops f k w) n (Stands f k h o w e (d + 1) j) (acts c x s t)
  acts_in {d} e j c (Cancel id) s t y g = cancel_in j c id t (less e d (j + 1) (omega arith) g)
  acts_in e j c (Activate x life) s t y g = activation_in e j c x life s t y g
  acts_in {d} e j c (Expire id) s t y g = expire_in j c id t (less e d (j + 1 + 1) (omega arith) g)

  -- the first message leaves, then acts: what it adds may be no more than it weighs beyond 2
  pub message_in : {d j n : ℕ} (c : Config) (s : KernelState) → ((x : MsgKind) → adds f x ≤ f x) → 2 ≤ j → (0 < s.msgs.count) × (s.msgs.count ≤ 16)
      → Stands f k h o w 0 d j n s → Within (Stops f k w) n (Acted f k h o w d j) (apply_next_msg c s)
  unfolding apply_next_msg
  message_in {d} {j} c s lighter two due g = taking_in
      (λ m l t.
      let a = lighter m.kind in
      let b = raises-most m.kind in
      let e : ℕ = 2 + f m.kind - adds f m.kind in
      let i : ℕ = j - raises m.kind in
      map_in (λ u y. y) (λ q u y. acted m.kind y)
      (acts_in e i c m.kind s _ (stops g) (less (e + adds f m.kind) d (i + raises m.kind) (omega arith) (out_in s m l t g))))
      (λ e. let y = e due.1 in absurd (omega arith))
