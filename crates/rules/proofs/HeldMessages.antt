-- Reports and messages keep what is held. Assumes nothing.
use Rattle.std.specs.Prelude.{Option, None}
use Prim.Native.Nat.{ℕ}
use mathlib.Core.Bool.{true, false≢true}
use mathlib.Core.Path.{◌≡◌, refl}
use native.Mathlib.Omega.{arith}
use lib.ListN.{get_or}
use Rattle.lists.proofs.Cases.{some_case}
use Rattle.lists.proofs.Sums.{take_case, found-live, Took}
use Rattle.book.specs.Entries.{blank_order, blank_msg, expires, is_expiry}
use Rattle.state.specs.With.{with_orders, with_msgs}
use Rattle.book.specs.declared.Delivery.{Delivery}
use Rattle.book.specs.declared.MsgKind.{MsgKind}
use Rattle.book.specs.declared.MsgKind.TheVariants.{Cancel, Activate, Expire}
use Rattle.book.specs.declared.ReportRec.{ReportRec}
use Rattle.book.specs.declared.Side.{Side}
use Rattle.book.specs.declared.Side.TheVariants.{Buy, Sell}
use Rattle.book.specs.declared.VenueMsg.{VenueMsg}
use Rattle.book.specs.declared.VenueOrder.{VenueOrder}
use Rattle.book.specs.declared.config.Config.{Config}
use Rattle.state.specs.declared.KernelState.{KernelState}
use Rattle.rules.specs.Run.{ran_to, and_then}
use Rattle.rules.specs.Report.{push_delivery, reported, queue_delivery}
use Rattle.rules.specs.Messages.{release, book, schedule, remove_expiry, schedule_expiry, accept, reject, activate, activation, cancel_booked, on_activation, cancel_activation, cancel_awaiting, cancel, expire_booked, expire, acts, apply_next_msg}
use Rattle.rules.specs.Conservation.{lots_on, carried_by, carried_on, recorded_by, recorded_on}
use Rattle.rules.proofs.Positions.{balanced-same}
use Rattle.rules.proofs.Kept.{ran-kept, halt-kept, pick-kept, some-kept, taking-kept, putting-kept, raised-kept, raised_then, then_kept}
use Rattle.rules.proofs.Steps.{stamp_then, delayed-kept, await-kept}
use Rattle.rules.proofs.Held.{over, nil, Held, Inv, Good, blank_lots, released_case}
use Rattle.book.specs.declared.FillRec.{FillRec}
use Rattle.lists.specs.declared.Arr.{Arr}

-- ---- a report
module _ {t : VenueOrder → ℕ} {unplaced : Side → ℕ} where
  push_good : (d : Delivery) (s : KernelState) → Held t unplaced (λ x. recorded_on x d) s → Good (Held t unplaced nil) (push_delivery d s)
  unfolding push_delivery
  push_good d s h = putting-kept _ _ s λ l a.
      record {
        lots = h.lots;
        no_terminal = h.no_terminal;
        balanced = balanced-same _ _ _ _ _ _ (omega (arith, a.sums (recorded_on Buy))) (omega (arith, a.sums (recorded_on Sell))) h.balanced;
        few_orders = h.few_orders;
        few_msgs = h.few_msgs;
        few_deliveries = a.room;
      }

  -- the fill that it reports is in a delivery
  pub report_good : (c : Config) (r : ReportRec) (f : Option FillRec) (s : KernelState) → Held t unplaced (λ x. recorded_by x f) s → Good (Held t unplaced nil) (queue_delivery c r f s)
  unfolding queue_delivery reported
  report_good c r f s h = then_kept (delayed-kept c _ _ s _ λ at rng. raised-kept h) (λ t g. push_good _ t g)

  pub plain_report_good : (c : Config) (r : ReportRec) (s : KernelState) → Held t unplaced nil s → Good (Held t unplaced nil) (queue_delivery c r None s)
  plain_report_good c r s h = report_good c r None s h

-- ---- an order in hand
pub release-good : {t : VenueOrder → ℕ} {unreported : Side → ℕ} (o : VenueOrder) (s : KernelState) → Held t (λ x. lots_on x o) unreported s → Good (Held t nil unreported) (release o s)
unfolding release
release-good o s h = released_case (Good _) _ _ _ _ _
    (λ buy sell q. ran-kept
    (record { lots = λ x. omega (arith, q x, h.lots x); no_terminal = h.no_terminal; balanced = h.balanced; few_orders = h.few_orders; few_msgs = h.few_msgs; few_deliveries = h.few_deliveries }))
    halt-kept

-- a booked order comes into the hand
pub took_order : {t : VenueOrder → ℕ} → t blank_order ≡ 0 → (i : ℕ) (s : KernelState) (o : VenueOrder) (l : Arr VenueOrder 8) → Took 8 blank_order i s.orders o l
    → Held t nil nil s → Held t (λ x. lots_on x o) nil (with_orders s l)
took_order {t} z i s o l k h =
    record {
      lots = λ x. omega (arith, k.sums (lots_on x) (blank_lots x), h.lots x);
      no_terminal = omega (arith, k.sums t z, h.no_terminal);
      balanced = h.balanced;
      few_orders = omega (arith, k.one_less, k.within);
      few_msgs = h.few_msgs;
      few_deliveries = h.few_deliveries;
    }

-- a message comes into the hand
took_msg : (i : ℕ) (s : KernelState) (m : VenueMsg) (l : Arr VenueMsg 16) → Took 16 blank_msg i s.msgs m l → Inv s → Held over (λ x. carried_on x m) nil (with_msgs s l)
took_msg i s m l k h =
    record {
      lots = λ x. omega (arith, k.sums (carried_on x) refl, h.lots x);
      no_terminal = h.no_terminal;
      balanced = h.balanced;
      few_orders = h.few_orders;
      few_msgs = omega (arith, k.one_less, k.within);
      few_deliveries = h.few_deliveries;
    }

-- ---- an expiry carries no order, so it leaves no lots
no_order : (x : Side) (id : ℕ) (k : MsgKind) → expires id k ≡ true → carried_by x k ≡ 0
no_order x id (Cancel i) e = refl
no_order x id (Activate o life) e = absurd (false≢true e)
no_order x id (Expire i) e = refl

pub removed_held : {t : VenueOrder → ℕ} {unplaced unreported : Side → ℕ} (Q : KernelState → Type 0) (id : ℕ) (s : KernelState) → Held t unplaced unreported s → Q s
    → ((l : Arr VenueMsg 16) → Held t unplaced unreported (with_msgs s l) → Q (with_msgs s l)) → Q (remove_expiry id s)
unfolding remove_expiry
removed_held {t} {unplaced} {unreported} Q id s h q f =
    some_case Q _ _ _
    (λ i e. let w = found-live _ blank_msg 16 s.msgs i e in
    take_case 16 (λ y. Q (with_msgs s y.list)) blank_msg i s.msgs (λ m l k. f l (out i m l k w.2)) (λ _. q))
    (λ _. q)
  where
    out : (i : ℕ) (m : VenueMsg) (l : Arr VenueMsg 16) → Took 16 blank_msg i s.msgs m l → is_expiry id (get_or s.msgs.slots i blank_msg) ≡ true → Held t unplaced unreported (with_msgs s l)
    out i m l k e =
        record {
          lots = λ x. let z : carried_on x m ≡ 0 = no_order x id m.kind (rw k.is e) in omega (arith, k.sums (carried_on x) refl, h.lots x);
          no_terminal = h.no_terminal;
          balanced = h.balanced;
          few_orders = h.few_orders;
          few_msgs = omega (arith, k.one_less, k.within);
          few_deliveries = h.few_deliveries;
        }

pub removed_good : {t : VenueOrder → ℕ} {unplaced unreported : Side → ℕ} (id : ℕ) (s : KernelState) → Held t unplaced unreported s → Held t unplaced unreported (remove_expiry id s)
removed_good {t} {unplaced} {unreported} id s h = removed_held (Held t unplaced unreported) id s h h (λ _ g. g)

-- ---- an activation
book-good : (o : VenueOrder) (s : KernelState) → over o ≡ 0 → Held over (λ x. lots_on x o) nil s → Good Inv (book o s)
unfolding book
book-good o s z h = putting-kept _ _ s λ l a.
    record {
      lots = λ x. omega (arith, a.sums (lots_on x), h.lots x);
      no_terminal = omega (arith, a.sums over, h.no_terminal);
      balanced = h.balanced;
      few_orders = a.room;
      few_msgs = h.few_msgs;
      few_deliveries = h.few_deliveries;
    }

expiry_good : (expiry : Option ℕ) (id : ℕ) (s : KernelState) → Inv s → Good Inv (schedule_expiry expiry id s)
unfolding schedule_expiry schedule
expiry_good expiry id s h = some-kept _ (λ at. some-kept _ (λ n. putting-kept _ _ _ (λ l a.
    record { lots = λ x. omega (arith, a.sums (carried_on x), h.lots x); no_terminal = h.no_terminal; balanced = h.balanced; few_orders = h.few_orders; few_msgs = a.room; few_deliveries = h.few_deliveries }))
    halt-kept) (ran-kept h)

accept-good : (c : Config) (o : VenueOrder) (expiry : Option ℕ) (s t : KernelState) → over o ≡ 0 → Held over (λ x. lots_on x o) nil t → Good Inv (accept c o expiry s t)
unfolding accept
accept-good c o expiry s t z h = then_kept (plain_report_good c _ t h) (λ u g. then_kept (book-good o u z g) (expiry_good expiry o.id))

reject-good : (c : Config) (o : VenueOrder) (s t : KernelState) → Held over (λ x. lots_on x o) nil t → Good Inv (reject c o s t)
unfolding reject
reject-good c o s t h = then_kept (release-good o t h) (λ u g. then_kept (plain_report_good c _ u g) (λ v k. await-kept o v (λ _. k) k))

activate-good : (c : Config) (o : VenueOrder) (expiry : Option ℕ) (s : KernelState) → Held over (λ x. lots_on x o) nil s → Good Inv (activate c o expiry s)
unfolding activate
activate-good c o expiry s h = stamp_then s _ (λ n. pick-kept _ (accept-good c _ expiry s _ refl h) (reject-good c _ s _ h))

activation-good : (c : Config) (o : VenueOrder) (life : ℕ) (s t : KernelState) → Held over (λ x. lots_on x o) nil t → Good Inv (activation c o life s t)
unfolding activation
activation-good c o life s t h = pick-kept _ (some-kept _ (λ at. pick-kept _ (activate-good c o _ t h) halt-kept) halt-kept) (activate-good c o _ t h)

-- ---- a cancel
booked-good : (c : Config) (s : KernelState) (i : ℕ) (t : KernelState) → Inv t → Good Inv (cancel_booked c s i t)
unfolding cancel_booked
booked-good c s i t h =
    taking-kept (λ o l k. then_kept (release-good o _ (took_order refl i t o l k h)) (λ u g. plain_report_good c _ _ (removed_good o.id u g))) (λ _. ran-kept h)

pending_good : (c : Config) (s : KernelState) (i : ℕ) (t : KernelState) → Inv t → Good Inv (cancel_activation c s i t)
unfolding cancel_activation
pending_good c s i t h = taking-kept (λ m l k. go _ m.kind _ (took_msg i t m l k h)) (λ _. ran-kept h)
  where
    go : (r : VenueOrder → ReportRec) (k : MsgKind) (u : KernelState) → Held over (λ x. carried_by x k) nil u
        → Good Inv (on_activation k (λ o. and_then (release o u) (queue_delivery c (r o) None)) (ran_to u))
    go r (Cancel j) u g = ran-kept g
    go r (Activate o life) u g = then_kept (release-good o u g) (plain_report_good c _)
    go r (Expire j) u g = ran-kept g

awaiting_good : (c : Config) (s : KernelState) (i : ℕ) (t : KernelState) → Inv t → Good Inv (cancel_awaiting c s i t)
unfolding cancel_awaiting
awaiting_good c s i t h = taking-kept (λ o l k. plain_report_good c _ _ h) (λ _. ran-kept h)

cancel-good : (c : Config) (id : ℕ) (s : KernelState) → Inv s → Good Inv (cancel c id s)
unfolding cancel
cancel-good c id s h =
    stamp_then s _ (λ n. some-kept _ (λ i. booked-good c s i _ h) (some-kept _ (λ i. pending_good c s i _ h) (some-kept _ (λ i. awaiting_good c s i _ h) (ran-kept h))))

-- ---- an expiry
expired-good : (c : Config) (s : KernelState) (i : ℕ) (t : KernelState) → Inv t → Good Inv (expire_booked c s i t)
unfolding expire_booked
expired-good c s i t h = taking-kept
    (λ o l k. then_kept (release-good o _ (took_order refl i t o l k h))
    (λ u g. raised_then _ u _ (then_kept (plain_report_good c _ u g) (λ v k. await-kept _ v (λ _. k) k))))
    (λ _. ran-kept h)

expire-good : (c : Config) (id : ℕ) (s : KernelState) → Inv s → Good Inv (expire c id s)
unfolding expire
expire-good c id s h = some-kept _ (λ i. stamp_then s _ (λ n. expired-good c s i _ h)) (ran-kept h)

-- ---- the first message
acts-good : (c : Config) (k : MsgKind) (s t : KernelState) → Held over (λ x. carried_by x k) nil t → Good Inv (acts c k s t)
acts-good c (Cancel id) s t h = cancel-good c id t h
acts-good c (Activate o life) s t h = activation-good c o life s t h
acts-good c (Expire id) s t h = expire-good c id t h

pub apply_good : (c : Config) (s : KernelState) → Inv s → Good Inv (apply_next_msg c s)
unfolding apply_next_msg
apply_good c s h = taking-kept (λ m l k. acts-good c m.kind s _ (took_msg 0 s m l k h)) (λ _. ran-kept h)
