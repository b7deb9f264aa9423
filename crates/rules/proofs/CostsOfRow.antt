-- What a row, its end and the end of data cost, and what a turn of the phases leaves of the control. Assumes nothing.
use Prim.Native.Nat.{ℕ, zero, suc, ◌+◌, ◌-◌, ◌*◌, ◌/◌, ◌≤◌, ◌<◌}
use mathlib.Core.List.{List, [], map}
use mathlib.Core.Path.{◌≡◌, refl, ap}
use native.Mathlib.Omega.{arith}
use lib.Dec.{ltb, leb}
use lib.ListN.{length, length-append, length-map, length-take}
use borrow.Author.Tests.{ltb-true}
use Rattle.lists.specs.Lists.{StoredAt, below, live, store_at, emptied, total}
use Rattle.lists.proofs.Cases.{pick_case, some_case}
use Rattle.lists.proofs.Sums.{store_case}
use Rattle.state.specs.With.{with_orders, control_phase}
use Rattle.book.specs.declared.VenueMsg.{VenueMsg}
use Rattle.book.specs.declared.VenueOrder.{VenueOrder}
use Rattle.book.specs.declared.config.Config.{Config}
use Rattle.book.specs.declared.config.KernelTick.{KernelTick}
use Rattle.state.specs.declared.Control.{Control}
use Rattle.state.specs.declared.KernelEvent.{KernelEvent}
use Rattle.state.specs.declared.KernelState.{KernelState}
use Rattle.state.specs.declared.Phase.TheVariants.{ObsQueued}
use Rattle.rules.specs.Run.{ran, after, and_then}
use Rattle.rules.specs.Report.{delayed}
use Rattle.rules.specs.Matching.{filled_by, fill_counted, fill_event, fill_at, Fills, no_fill, fills, fails, fills_at, filling, match_at, match_from, leave, sweep_from, sweep, match_row}
use Rattle.rules.specs.Delivery.{deliver_all, dropped_event, empty_queues, close_data, end_of_data}
use Rattle.rules.specs.Events.{truncated}
use Rattle.rules.specs.FewEvents.{raisable_kind, msgs_events}
use Rattle.rules.specs.Phases.{queue_observation, match_phase, before_match, settle_row, settle, to_row, next_row, obs_queued}
use Rattle.rules.proofs.Bounded.{Within, ran_in, halted_in, halt_in, ended_in, pick_in, some_in, taking_in, putting_in, ran_out, map_in, then_in}
use Rattle.rules.proofs.Costs.{Stands, Stops, less, stops, raise_in, stamp_in, report_in, await_in, removed_in, fewer_in}
use Rattle.rules.proofs.Paid.{Paid, stops_on, opened, closed, pays_less, raise_paid, deliver_paid, walk_in, own}
use Rattle.lists.specs.declared.Arr.{Arr}

stored-few : (i h : ℕ) (o : VenueOrder) (r : Arr VenueOrder 8) → r.count ≤ h → (store_at 8 i o r).list.count ≤ h
stored-few i h o r w = store_case 8 (λ (q : StoredAt VenueOrder 8). q.list.count ≤ h) i o r (λ _ _. w) w

module _ {k : Control} {h o w : ℕ} where
  -- ---- a row over the orders: a fill raises two events, its own and its report, and sends a delivery
  event_in : {e d n : ℕ} (j : ℕ) (x : VenueOrder) (q : ℕ) (s : KernelState) → Stands raisable_kind k h o w e d (j + 1) n s → Within (Stops raisable_kind k w) n (Stands raisable_kind k h o w e d j) (fill_event x q s)
  unfolding fill_event fill_counted
  event_in j x q s g = then_in (stamp_in s g)
      (λ m t g. some_in _ (λ y. pick_in _ (some_in _ (λ _. some_in _ (λ _. raise_in j _ _ g) (halt_in (stops g))) (halt_in (stops g))) (halt_in (stops g))) (halt_in (stops g)))

  fill_in : {e d n : ℕ} (j : ℕ) (c : Config) (i : ℕ) (x : VenueOrder) (q : ℕ) (s : KernelState) → Stands raisable_kind k h o w e d (j + 1 + 1) n s → Within (Stops raisable_kind k w) n (Stands raisable_kind k h o w e (d + 1) j) (fill_at c i x q s)
  unfolding fill_at
  fill_in j c i x q s g = then_in (event_in (j + 1) x q s g)
      (λ m t g. report_in j c _ _ _
      (record { at = g.at; room = g.room; few = stored-few i h (filled_by q x) t.orders g.few; seen = g.seen; light = g.light; held = g.held; spare = g.spare }))

  filling_in : {e d n : ℕ} (j : ℕ) (c : Config) (i : ℕ) (s : KernelState) (f : Fills) → Stands raisable_kind k h o w e d (j + 1 + 1) n s → Within (Stops raisable_kind k w) n (Stands raisable_kind k h o w e (d + 1) j) (filling c i s f)
  filling_in {e} {d} j c i s no_fill g = ran_in (less e (d + 1) j (omega arith) g)
  filling_in j c i s (fills x q) g = fill_in j c i x q s g
  filling_in j c i s fails g = halt_in (stops g)

  match_in : {e n : ℕ} (d j : ℕ) (c : Config) (row : KernelTick) (l i : ℕ) (s : KernelState) → Stands raisable_kind k h o w e d (2 * l + j) n s → Within (Stops raisable_kind k w) n (Stands raisable_kind k h o w e (d + l) j) (match_from c row l i s)
  unfolding match_from match_at
  match_in {e} d j c row zero i s g = ran_in (less e (d + 0) j (omega arith) g)
  match_in {e} d j c row (suc l) i s g =
      then_in (filling_in (2 * l + j) c i s (fills_at c.fill row i s.orders) (less e d (2 * l + j + 1 + 1) (omega arith) g))
      (λ m t g. map_in (λ u y. y) (λ m u y. less e (d + suc l) j (omega arith) y) (match_in (d + 1) j c row l (i + 1) t g))

  leave_in : {e d j n : ℕ} (i : ℕ) (s : KernelState) → Stands raisable_kind k h o w e d j n s → Within (Stops raisable_kind k w) n (Stands raisable_kind k h o w e d j) (leave i s)
  unfolding leave
  leave_in i s g = taking_in (λ x l t. await_in x _ (removed_in refl x.id (with_orders s l) (fewer_in s x l t g))) (λ _. ran_in g)

  sweep_in : {e d j n : ℕ} (l i : ℕ) (s : KernelState) → Stands raisable_kind k h o w e d j n s → Within (Stops raisable_kind k w) n (Stands raisable_kind k h o w e d j) (sweep_from l i s)
  unfolding sweep_from
  sweep_in zero i s g = ran_in g
  sweep_in {n = n} (suc l) i s g = then_in (pick_in _ (leave_in i s g) (ran_in g)) (λ m t g. sweep_in {n = m} l _ t g)

  row_in : {e n : ℕ} (d j : ℕ) (c : Config) (row : KernelTick) (s : KernelState) → Stands raisable_kind k h o w e d (2 * h + j) n s → Within (Stops raisable_kind k w) n (Stands raisable_kind k h o w e (d + h) j) (match_row c row s)
  unfolding match_row sweep
  row_in {e} d j c row s g = some_in _
      (λ _. then_in (match_in d j c row s.orders.count 0 _ (less e d (2 * s.orders.count + j) (omega (arith, g.few)) g))
      (λ m t y. map_in (λ u z. z) (λ m u z. less e (d + h) j (omega (arith, g.few)) z) (sweep_in _ 0 t y)))
      (halt_in (stops g))

  -- ---- the phases
  -- a row that is matched queues an observation, where there is room
  observe_in : {e d j n : ℕ} (c : Config) (i : ℕ) (row : KernelTick) (s : KernelState) → Stands raisable_kind k h o w e d j n s
      → Within (Stops raisable_kind k w) n (λ m t. Stands raisable_kind (control_phase k ObsQueued) h (o + 1) w e d j m t × (o + 1 ≤ 16)) (queue_observation c i row s)
  unfolding queue_observation delayed
  observe_in c i row s g = some_in _
      (λ at. putting_in _ _ _
      (λ l a. (record { at = ap (λ (y : Control). control_phase y ObsQueued) g.at; room = g.room; few = g.few; seen = omega (arith, g.seen, a.one_more); light = g.light; held = g.held; spare = g.spare }, omega (arith, g.seen, a.one_more, a.room)))
      (stops g))
      (halt_in (stops g))

-- what a row that was matched leaves, of j events to spare: two an order are raised, and one more each is to be paid for
abbrev pub Matched : Control → ℕ → ℕ → ℕ → ℕ → ℕ → KernelState → Type 0
Matched k h o w j n s = ((i : ℕ) → i + 3 * h ≤ j → Paid (control_phase k ObsQueued) h (o + 1) w i n s) × (o + 1 ≤ 16)

module _ {k : Control} {h o w : ℕ} where
  row_turn_in : (j : ℕ) {n : ℕ} (c : Config) (i : ℕ) (row : KernelTick) (s : KernelState) → 2 * h ≤ j → Paid k h o w j n s
      → Within (Stops raisable_kind k w) n (Matched k h o w j) (and_then (match_row c row s) (queue_observation c i row))
  row_turn_in j {n} c i row s b g =
      let d : ℕ = s.deliveries.count in
      let q : ℕ = msgs_events s.msgs + d + (j - 2 * h) in
      map_in {P = λ m t. Stands raisable_kind (control_phase k ObsQueued) h (o + 1) (msgs_events s.msgs) 0 (d + h) q m t × (o + 1 ≤ 16)}
      (λ u y. stops_on u (omega (arith, g.light)) y)
      (λ m u y. (λ a z. closed a u (omega (arith, g.light)) (omega arith) y.0, y.1))
      (then_in (row_in d q c row s (less 0 d (2 * h + q) (omega arith) (opened j s g))) (λ m u y. observe_in c i row u y))

  pub before_in : (j : ℕ) {n : ℕ} (c : Config) (rows : List ℕ) (s : KernelState) → 2 * h ≤ j → Paid k h o w j n s → Within (Stops raisable_kind k w) n (Matched k h o w j) (before_match c rows s)
  unfolding before_match match_phase
  before_in j c rows s b g = some_in _
      (λ i. some_in _ (λ row. then_in (walk_in j c _ s (omega (arith, g.room)) g) (λ m t y. row_turn_in j c i row _ b y)) (halt_in (stops g))) (halt_in (stops g))

  -- a row's end raises one
  pub settle_in : (j : ℕ) {n : ℕ} (c : Config) (rows : List ℕ) (s : KernelState) → Paid k h o w (j + 1) n s → Within (Stops raisable_kind k w) n (Paid k h o w j) (settle c rows s)
  unfolding settle settle_row
  settle_in j c rows s g = some_in _
      (λ i. some_in _
      (λ row. then_in (walk_in (j + 1) c _ s (omega arith) g)
      (λ m t y. pick_in _ (raise_paid j _ t y) (halt_in (stops y))))
      (halt_in (stops g)))
      (ran_in (pays_less (j + 1) j s (omega arith) g))

  -- ---- end of data
  all_in : (j : ℕ) {n : ℕ} (l : ℕ) (s : KernelState) → Paid k h o w j n s → Within (Stops raisable_kind k w) n (Paid k h o w j) (deliver_all l s)
  unfolding deliver_all
  all_in j zero s g = ran_in g
  all_in j (suc l) s g = then_in (deliver_paid j s g) (λ m t y. all_in j l t y)

live-few : {A : Type 0} {size : ℕ} (most : ℕ) (r : Arr A size) → length (live most r) ≤ r.count
unfolding live
live-few most r = pick_case (λ l. length l ≤ r.count) (leb r.count most) (below r) [] (λ _. omega (arith, length-take r.count r.slots)) (λ _. omega arith)

-- messages that are dropped raise nothing more
emptied-stops : {k : Control} {w : ℕ} (s : KernelState) → Stops raisable_kind k w s → Stops raisable_kind k w (empty_queues s)
unfolding empty_queues emptied total
emptied-stops {w = w} s z =
    record { cursor = z.cursor; row = z.row; light = pick_case (λ (r : Arr VenueMsg 16). msgs_events r ≤ w) (leb s.msgs.count 16) _ _ (λ _. omega arith) (λ _. z.light) }

module _ {P : ℕ → KernelState → Type 0} where
  -- the data ended, or one of its two counters did not fit: nothing runs on
  close_in : {k : Control} {h o w : ℕ} (j : ℕ) {n : ℕ} (s : KernelState) → 1 ≤ j → Paid k h o w j n s → Within (Stops raisable_kind k w) n P (close_data s)
  unfolding close_data
  close_in {k} {h} {o} {w} j {n} s b g = some_case (λ r. Within (Stops raisable_kind k w) n P (after es r)) _ _ _
      (λ m _. some_case (λ r. Within (Stops raisable_kind k w) n P (after es r)) _ _ _
      (λ q _. ended_in (rw length-append (omega (arith, few))) (record { cursor = z.cursor; row = z.row; light = z.light }))
      (λ _. halted_in (rw length-append (omega (arith, few))) (record { cursor = z.cursor; row = z.row; light = z.light })))
      (λ _. halted_in (rw length-append (omega (arith, few))) z)
    where
      es : List KernelEvent
      es = map dropped_event (live 16 s.msgs)

      few : length es + 1 ≤ n
      few = omega (arith, g.spare, length-map (live 16 s.msgs) dropped_event, live-few 16 s.msgs)

      z : Stops raisable_kind k w (empty_queues s)
      z = emptied-stops s (stops g)

  end_in : {k : Control} {h o w : ℕ} (j : ℕ) {n : ℕ} (s : KernelState) → 1 ≤ j → Paid k h o w j n s → Within (Stops raisable_kind k w) n P (end_of_data s)
  unfolding end_of_data
  end_in j s b g = then_in (all_in j s.deliveries.count s g) (λ m t y. close_in j t b y)

-- ---- the row at the cursor, if there is one, else the run is truncated
pub data AfterRow (rows : List ℕ) (k : Control) (h o w j n : ℕ) (s : KernelState) : Type 0 where
  onward : k.cursor < length rows / 5 → Paid (to_row k (k.cursor + 1)) h o w j n s → AfterRow rows k h o w j n s
  stopped : Paid (truncated k) h o w j n s → AfterRow rows k h o w j n s

next_in : {k : Control} {h o w : ℕ} (j : ℕ) {n : ℕ} (c : Config) (rows : List ℕ) (s : KernelState) → 1 ≤ j → Paid k h o w j n s → Within (Stops raisable_kind k w) n (AfterRow rows k h o w j) (next_row c rows s)
unfolding next_row
next_in {k} {h} {o} {w} j {n} c rows s b g = pick_case (Within (Stops raisable_kind k w) n (AfterRow rows k h o w j)) (ltb s.control.cursor (length rows / 5)) _ _
    (λ e. let v : s.control.cursor < length rows / 5 = ltb-true _ _ e in
    pick_in _
    (ran_in (stopped (record { at = ap truncated g.at; room = g.room; few = g.few; seen = g.seen; light = g.light; held = g.held; spare = g.spare })))
    (ran_in (onward (omega (arith, (stops g).cursor)) (record { at = ap (λ (y : Control). to_row y (y.cursor + 1)) g.at; room = g.room; few = g.few; seen = g.seen; light = g.light; held = g.held; spare = g.spare }))))
    (λ _. end_in j s b g)

-- 1 for the row's end; 1 for the end of data, which stays where there is a row
pub queued_in : {k : Control} {h o w : ℕ} (j : ℕ) {n : ℕ} (c : Config) (rows : List ℕ) (s : KernelState) → 1 ≤ j → Paid k h o w (j + 1) n s → Within (Stops raisable_kind k w) n (AfterRow rows k h o w j) (obs_queued c rows s)
unfolding obs_queued
queued_in j c rows s b g = then_in (settle_in j c rows s g) (λ m t y. next_in j c rows t b y)

-- ---- what a turn that ran leaves of the control, from every state
pub before_control : (c : Config) (rows : List ℕ) (s : KernelState) → (before_match c rows s).outcome ≡ ran → (before_match c rows s).state.control ≡ control_phase s.control ObsQueued
before_control c rows s q = let j : ℕ = 3 * (8 + s.orders.count) in ((ran_out (before_in j c rows s (omega arith) (own j s)) q).0 0 (omega arith)).at

pub settle_control : (c : Config) (rows : List ℕ) (s : KernelState) → (settle c rows s).outcome ≡ ran → (settle c rows s).state.control ≡ s.control
settle_control c rows s q = (ran_out (settle_in 1 c rows s (own (1 + 1) s)) q).at

-- the row at the cursor is taken up, or the run is truncated
pub data NextControl (rows : List ℕ) (k c : Control) : Type 0 where
  row_taken_lem : k.cursor < length rows / 5 → c ≡ to_row k (k.cursor + 1) → NextControl rows k c
  cut_off : c ≡ truncated k → NextControl rows k c

pub queued_control : (c : Config) (rows : List ℕ) (s : KernelState) → (obs_queued c rows s).outcome ≡ ran → NextControl rows s.control (obs_queued c rows s).state.control
queued_control c rows s q = go (ran_out (queued_in 1 c rows s (omega arith) (own (1 + 1) s)) q)
  where
    go : {h o w j n : ℕ} {t : KernelState} → AfterRow rows s.control h o w j n t → NextControl rows s.control t.control
    go (onward v g) = row_taken_lem v g.at
    go (stopped g) = cut_off g.at
