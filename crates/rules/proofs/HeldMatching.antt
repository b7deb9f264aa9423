-- A pass of matching keeps the lots, a terminal order in it having none left, and the sweep behind it leaves no terminal order. Assumes nothing.
use Rattle.std.specs.Prelude.{Option, Some, None}
use Prim.Native.Nat.{ℕ, zero, suc, ◌+◌, ◌-◌, ◌≤◌, ◌<◌}
use mathlib.Core.Bool.{Bool, true, false, false≢true}
use mathlib.Core.Path.{◌≡◌, refl, ◌∙◌}
use native.Mathlib.Numerals.{add-one}
use native.Mathlib.Omega.{arith}
use lib.Dec.{leb, eqb}
use lib.ListN.{get_or, take, length}
use borrow.Author.Tests.{leb-false, eqb-true, eqb-false}
use Rattle.lists.specs.Lists.{below, entry_at, store_at, total}
use Rattle.lists.proofs.Cases.{pick_case}
use Rattle.lists.proofs.Sums.{entry_case, total_none, there, Took}
use Rattle.lists.proofs.Totals.{Stored, stored, front-all, front-more, front_same}
use Rattle.book.specs.Entries.{blank_order, remaining, is_terminal}
use Rattle.state.specs.With.{with_seqs, with_orders, with_gate, seqs_stamp_seq}
use Rattle.book.specs.declared.OrderState.{OrderState}
use Rattle.book.specs.declared.VenueOrder.{VenueOrder}
use Rattle.book.specs.declared.config.Config.{Config}
use Rattle.book.specs.declared.config.FillMode.{FillMode}
use Rattle.book.specs.declared.config.FillMode.TheVariants.{Immediate, QueuePosition}
use Rattle.book.specs.declared.config.KernelTick.{KernelTick}
use Rattle.numbers.specs.Choice.{pick, on_some}
use Rattle.state.specs.declared.KernelState.{KernelState}
use Rattle.rules.specs.Messages.{remove_expiry}
use Rattle.rules.specs.Matching.{lots_of, queue_fill_lots, fill_lots, filled_by, fill_counted, fill_event, fill_at, Fills, no_fill, fills, fails, fills_of, fills_at, filling, match_at, match_from, leave, terminal_at, sweep_from, sweep, gate_marked, match_row}
use Rattle.rules.specs.Conservation.{of_side, lots_on}
use Rattle.rules.proofs.Cases.{moved_by}
use Rattle.rules.proofs.Positions.{balanced-same, balanced-venue}
use Rattle.rules.proofs.Kept.{ran-kept, halt-kept, pick-kept, some-kept, taking-kept, raised-kept, ran_then, picks_kept, then_kept}
use Rattle.rules.proofs.Steps.{stamp_then, await-kept}
use Rattle.rules.proofs.Held.{when, over, over_lots, nil, Held, Inv, Mid, Good, Gone, gate_with, no-lots, split_lots, filled_case}
use Rattle.rules.proofs.HeldMessages.{report_good, took_order, removed_held}
use Rattle.orders.specs.Rows.{Orders}
use Rattle.lists.specs.declared.Arr.{Arr}

-- ---- no more than the remaining lots
pub lots-most : (cumulative : ℕ) (o : VenueOrder) → lots_of cumulative o ≤ remaining o
unfolding lots_of
lots-most x o = pick_case (λ n. n ≤ remaining o) (eqb x 0) _ _ (λ _. omega arith)
    (λ _. pick_case (λ n. n ≤ remaining o) (leb o.qty x) _ _ (λ _. omega arith) (λ e. let h : x < o.qty = leb-false _ _ e in omega arith))

-- what a number of 64 bits is at most, where there is one
AtMost : ℕ → Option ℕ → Type 0
AtMost m None = Unit {0}
AtMost m (Some n) = n ≤ m

fill_most : (mode : FillMode) (row : KernelTick) (o : VenueOrder) → AtMost (remaining o) (fill_lots mode row o)
unfolding AtMost queue_fill_lots
fill_most Immediate row o = omega arith
fill_most (QueuePosition rate per _) row o = pick_case (AtMost (remaining o)) _ _ _ (λ _. tt) (λ _. lots-most _ o)

-- what is filled is the live order at that place: some lots, and no more than remain
abbrev pub There : ℕ → Orders → Fills → Type 0
There i os no_fill = Unit {0}
There i os (fills o n) = (o ≡ get_or os.slots i blank_order) × (os.count ≤ 8) × (i < os.count) × (0 < n) × (n ≤ remaining o)
There i os fails = Unit {0}

pub fills-there : (mode : FillMode) (row : KernelTick) (i : ℕ) (os : Orders) → There i os (fills_at mode row i os)
unfolding fills_at fills_of
fills-there mode row i os =
    entry_case 8 (There i os) blank_order i os _ _
    (λ a b. pick_case (There i os) _ _ _ (λ _. lots a b (get_or os.slots i blank_order) refl (fill_lots mode row (get_or os.slots i blank_order)) (fill_most mode row _)) (λ _. tt))
    (λ _. tt)
  where
    positive : (n : ℕ) → (n ≡ 0 → ⊥) → 0 < n
    positive zero k = absurd (k refl)
    positive (suc n) k = omega arith

    lots : os.count ≤ 8 → i < os.count → (o : VenueOrder) → o ≡ get_or os.slots i blank_order → (m : Option ℕ) → AtMost (remaining o) m → There i os (on_some m (λ n. pick (eqb n 0) no_fill (fills o n)) fails)
    lots a b o e None h = unfold on_some in tt
    lots a b o e (Some n) h = unfold on_some AtMost in pick_case (There i os) (eqb n 0) _ _ (λ _. tt) (λ z. (e, a, b, positive n (eqb-false n 0 z), h))

-- ---- a fill
-- an order that a fill makes terminal has no lots left
spent : (n : ℕ) (o : VenueOrder) → over_lots (filled_by n o) ≤ over_lots o
unfolding filled_by
spent n o = pick_case (λ (x : OrderState). when (is_terminal x) (o.qty - (o.filled + n)) ≤ over_lots o) (eqb n (remaining o)) _ _
    (λ e. let h : n ≡ remaining o = eqb-true _ _ e in omega arith) (λ _. less (is_terminal o.state))
  where
    less : (b : Bool) → when b (o.qty - (o.filled + n)) ≤ when b (remaining o)
    less true = omega arith
    less false = omega arith

-- the order at place i
abbrev order_at : ℕ → KernelState → VenueOrder
order_at i s = get_or s.orders.slots i blank_order

module _ (i n : ℕ) (s : KernelState) (w : i < s.orders.count) (some-lots : 0 < n) (most : n ≤ remaining (order_at i s)) (h : Mid s) where
  slot : i < length s.orders.slots
  slot = there remaining s.orders.slots i blank_order refl (omega arith)

  -- the lots of a fill go from the booked order to the fills that are in no delivery
  filled-held : (buy sell : ℕ) → Gone (order_at i s).side n s.gate buy sell
      → Held over_lots nil (λ x. of_side x (order_at i s).side n)
      (with_orders (with_gate s (gate_with s.gate (moved_by (order_at i s).side n s.gate.venue_pos.lots) buy sell)) ((store_at 8 i (filled_by n (order_at i s)) s.orders).list))
  filled-held buy sell q =
      let o : VenueOrder = order_at i s in
      let k : Stored blank_order i (filled_by n o) s.orders (store_at 8 i (filled_by n o) s.orders).list = stored 8 blank_order i (filled_by n o) s.orders h.few_orders w slot in
      record {
        lots = λ x. unfold filled_by in omega (arith, q x, k.sums (lots_on x), split_lots x o.side n (remaining o) (o.qty - (o.filled + n)) (omega arith), h.lots x);
        no_terminal = omega (arith, k.sums over_lots, spent n o, h.no_terminal);
        balanced = balanced-same _ _ _ _ _ _ (omega arith) (omega arith) (balanced-venue o.side n _ _ _ _ h.balanced);
        few_orders = omega (arith, k.same_count, h.few_orders);
        few_msgs = h.few_msgs;
        few_deliveries = h.few_deliveries;
      }

-- the fill is in no delivery yet, and the order is to be stored
abbrev Ready : ℕ → VenueOrder → ℕ → KernelState → Type 0
Ready i o n t = Held over_lots nil (λ x. of_side x o.side n) (with_orders t ((store_at 8 i (filled_by n o) t.orders).list))

event_good : (i n : ℕ) (s : KernelState) → i < s.orders.count → 0 < n → n ≤ remaining (order_at i s) → Mid s → Good (Ready i (order_at i s) n) (fill_event (order_at i s) n s)
unfolding fill_event fill_counted
event_good i n s w z m h = stamp_then s _ (λ k. filled_case (Good (Ready i (order_at i s) n)) _ _ _ _ _
    (λ buy sell q. pick-kept _ (some-kept _ (λ e. some-kept _ (λ f. raised-kept (filled-held i n (with_seqs s (seqs_stamp_seq s.seqs k)) w z m h buy sell q)) halt-kept) halt-kept) halt-kept)
    halt-kept)

fill_at_good : (c : Config) (i n : ℕ) (s : KernelState) → i < s.orders.count → 0 < n → n ≤ remaining (order_at i s) → Mid s → Good Mid (fill_at c i (order_at i s) n s)
unfolding fill_at
fill_at_good c i n s w z m h = then_kept (event_good i n s w z m h) (λ t g. report_good c _ _ _ g)

-- ---- the pass over the orders
match_good : (c : Config) (row : KernelTick) (i : ℕ) (s : KernelState) → Mid s → Good Mid (match_at c row i s)
unfolding match_at
match_good c row i s h = go (fills_at c.fill row i s.orders) (fills-there c.fill row i s.orders)
  where
    go : (f : Fills) → There i s.orders f → Good Mid (filling c i s f)
    go no_fill k = ran-kept h
    go (fills o n) k = rw k.0 (fill_at_good c i n s k.2 k.3 (rw k.0 at k.4) h)
    go fails k = halt-kept

match_all : (c : Config) (row : KernelTick) (k i : ℕ) (s : KernelState) → Mid s → Good Mid (match_from c row k i s)
unfolding match_from
match_all c row zero i s h = ran-kept h
match_all c row (suc k) i s h = then_kept (match_good c row i s h) (match_all c row k (i + 1))

-- ---- the sweep
-- no terminal order stands before place i
abbrev Clear : ℕ → KernelState → Type 0
Clear i s = total over (take i (below s.orders)) ≡ 0

-- of n orders one is gone
abbrev Swept : ℕ → ℕ → KernelState → Type 0
Swept i n s = Mid s × Clear i s × (s.orders.count + 1 ≡ n)

-- what it says of the order at place i that a terminal one stands there
is_terminal_lem : (i : ℕ) (s : KernelState) → terminal_at i s ≡ true → (i < s.orders.count) × (is_terminal (order_at i s).state ≡ true)
unfolding terminal_at
is_terminal_lem i s = entry_case 8 (λ b. b ≡ true → (i < s.orders.count) × (is_terminal (order_at i s).state ≡ true)) blank_order i s.orders _ _
    (λ _ w e. (w, e)) (λ _ e. absurd (false≢true e))

is_open : (i : ℕ) (s : KernelState) → terminal_at i s ≡ false → on_some (entry_at 8 blank_order i s.orders) over 0 ≡ 0
unfolding terminal_at on_some
is_open i s e = go (entry_at 8 blank_order i s.orders) e
  where
    go : (x : Option VenueOrder) → on_some x (λ o. is_terminal o.state) false ≡ false → on_some x over 0 ≡ 0
    go None e = refl
    go (Some o) e = rw e

-- nothing is in hand where the order has no lots
empty_hand : {t : VenueOrder → ℕ} (o : VenueOrder) (s : KernelState) → remaining o ≡ 0 → Held t (λ x. lots_on x o) nil s → Held t nil nil s
empty_hand o s z h =
    record {
      lots = λ x. omega (arith, no-lots x o.side (remaining o) z, h.lots x);
      no_terminal = h.no_terminal;
      balanced = h.balanced;
      few_orders = h.few_orders;
      few_msgs = h.few_msgs;
      few_deliveries = h.few_deliveries;
    }

-- by the value of a test
when_none : (b : Bool) (n : ℕ) → b ≡ true → when b n ≡ 0 → n ≡ 0
when_none b n e h = rw e at h

when-one : (b : Bool) → b ≡ true → 0 < when b 1
when-one b e = rw e (omega arith)

no_lots_over : (b : Bool) (n : ℕ) → when b 1 ≡ 0 → when b n ≡ 0
no_lots_over true n e = absurd (omega arith)
no_lots_over false n e = refl

leave-good : (i : ℕ) (s : KernelState) → Mid s → Clear i s → i < s.orders.count → is_terminal (order_at i s).state ≡ true → Good (Swept i s.orders.count) (leave i s)
unfolding leave
leave-good i s h z w e = taking-kept (λ o l k. let g = gone o l k in await-kept o _ (λ _. g) g) (λ k. absurd (omega (arith, k h.few_orders)))
  where
    gone : (o : VenueOrder) (l : Arr VenueOrder 8) → Took 8 blank_order i s.orders o l → Swept i s.orders.count (remove_expiry o.id (with_orders s l))
    gone o l k =
        let there-is : i < length s.orders.slots = there over s.orders.slots i blank_order refl (when-one (is_terminal (order_at i s).state) e) in
        let v : total over (take i (below l)) ≡ 0 = rw (front_same 8 blank_order i s.orders o l k there-is) z in
        let r : remaining o ≡ 0 = when_none (is_terminal o.state) (remaining o) (rw k.is e) (omega (arith, k.sums over_lots refl, h.no_terminal)) in
        let m : Mid (with_orders s l) = empty_hand o (with_orders s l) r (took_order refl i s o l k h) in
        removed_held (Swept i s.orders.count) o.id (with_orders s l) m (m, v, k.one_less) (λ x y. (y, v, k.one_less))

sweep-from : (k i : ℕ) (s : KernelState) → s.orders.count ≤ i + k → Mid s → Clear i s → Good Inv (sweep_from k i s)
unfolding sweep_from
sweep-from zero i s w h z =
    ran-kept
    (record {
      lots = h.lots;
      no_terminal = omega (arith, front-all over i s.orders (omega arith));
      balanced = h.balanced;
      few_orders = h.few_orders;
      few_msgs = h.few_msgs;
      few_deliveries = h.few_deliveries;
    })
sweep-from (suc k) i s w h z = picks_kept (terminal_at i s) _ _ _ _ (sweep_from k)
    (λ e. let a = is_terminal_lem i s e in then_kept (leave-good i s h z a.0 a.1) (λ t g. let l = g.2 in sweep-from k _ t (omega arith) g.0 g.1))
    (λ e. ran_then s _ (sweep-from k _ s (omega arith) h (rw add-one (front-more over 8 blank_order i s.orders refl h.few_orders (is_open i s e) ∙ z))))

sweep-good : (s : KernelState) → Mid s → Good Inv (sweep s)
unfolding sweep total
sweep-good s h = sweep-from _ 0 s (omega arith) h refl

-- ---- a row
mid : (s : KernelState) → Inv s → Mid s
mid s h =
    record {
      lots = h.lots;
      no_terminal = total_none over over_lots (λ o. no_lots_over (is_terminal o.state) (remaining o)) _ h.no_terminal;
      balanced = h.balanced;
      few_orders = h.few_orders;
      few_msgs = h.few_msgs;
      few_deliveries = h.few_deliveries;
    }

-- a mark moves no lots
gate_marked_held : (mid2 : ℕ) (s : KernelState) → Mid s → Mid (with_gate s (gate_marked mid2 s.gate))
unfolding gate_marked
gate_marked_held mid2 s h = pick_case (λ g. Mid (with_gate s g)) (eqb mid2 0) _ _ (λ _. h) (λ _. h)

pub match_row_good : (c : Config) (row : KernelTick) (s : KernelState) → Inv s → Good Inv (match_row c row s)
unfolding match_row
match_row_good c row s h = some-kept _ (λ mid2. then_kept (match_all c row _ 0 _ (gate_marked_held mid2 s (mid s h))) sweep-good) halt-kept
