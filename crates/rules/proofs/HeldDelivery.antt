-- A delivery keeps what is held, and end of data, where all are delivered, closes it. Assumes nothing.
use Rattle.std.specs.Prelude.{Option, Some, None}
use Prim.Native.Nat.{ℕ, zero, suc, ◌+◌, ◌≤◌}
use mathlib.Core.List.{List, map}
use mathlib.Core.Path.{◌≡◌, refl, ap}
use native.Mathlib.Omega.{arith}
use lib.ListN.{take}
use Rattle.lists.specs.Lists.{live, total}
use Rattle.lists.proofs.Sums.{Took}
use Rattle.lists.proofs.Totals.{live_below}
use Rattle.book.specs.Entries.{blank_delivery}
use Rattle.state.specs.With.{with_deliveries}
use Rattle.book.specs.declared.Delivery.{Delivery}
use Rattle.book.specs.declared.ReportRec.{ReportRec}
use Rattle.book.specs.declared.Side.TheVariants.{Buy, Sell}
use Rattle.state.specs.declared.KernelState.{KernelState}
use Rattle.rules.specs.Delivery.{count_fill, move_agent, count_reject, deliver_next, deliver_all, dropped_event, empty_queues, close_data, end_of_data}
use Rattle.rules.specs.Conservation.{carried_on, recorded_by, recorded_on, Closed}
use Rattle.rules.proofs.Cases.{moved_case}
use Rattle.rules.proofs.Positions.{balanced-same, balanced_agent, balanced_equal}
use Rattle.rules.proofs.Kept.{ran-kept, halt-kept, ended-kept, after_kept, pick-kept, some-kept, taking-kept, raised_then, then_kept}
use Rattle.rules.proofs.Held.{over, nil, Held, Inv, Good}
use Rattle.book.specs.declared.FillRec.{FillRec}
use Rattle.lists.specs.declared.Arr.{Arr}

-- no more than n deliveries are left
abbrev pub Left : ℕ → KernelState → Type 0
Left n s = Inv s × (s.deliveries.count ≤ n)

took-delivery : (s : KernelState) (d : Delivery) (l : Arr Delivery 24) → Took 24 blank_delivery 0 s.deliveries d l → Inv s
    → Held over nil (λ x. recorded_by x d.fill) (with_deliveries s l)
took-delivery s d l k h =
    record {
      lots = h.lots;
      no_terminal = h.no_terminal;
      balanced = balanced-same _ _ _ _ _ _ (omega (arith, k.sums (recorded_on Buy) refl)) (omega (arith, k.sums (recorded_on Sell) refl)) h.balanced;
      few_orders = h.few_orders;
      few_msgs = h.few_msgs;
      few_deliveries = omega (arith, k.one_less, k.within);
    }

-- the agent's position takes over the fill's record
move_good : (n : ℕ) (f : Option FillRec) (s : KernelState) → Held over nil (λ x. recorded_by x f) s → s.deliveries.count ≤ n → Good (Left n) (move_agent f s)
unfolding count_fill
move_good n None s h w = ran-kept (h, w)
move_good n (Some f) s h w =
    moved_case (Good (Left n)) _ _ _ _ _
    (some-kept _
    (λ k. ran-kept (
      (record {
        lots = h.lots;
        no_terminal = h.no_terminal;
        balanced = balanced-same _ _ _ _ _ _ (omega arith) (omega arith) (balanced_agent f.side f.qty _ _ _ _ h.balanced);
        few_orders = h.few_orders;
        few_msgs = h.few_msgs;
        few_deliveries = h.few_deliveries;
      }),
      w,
    ))
    halt-kept)
    halt-kept

count-good : (n : ℕ) (r : ReportRec) (s : KernelState) → Left n s → Good (Left n) (count_reject r s)
unfolding count_reject
count-good n r s h = pick-kept _ (pick-kept _ (some-kept _ (λ k. ran-kept h) halt-kept) (ran-kept h)) (ran-kept h)

-- one delivery less
pub deliver-good : (n : ℕ) (s : KernelState) → Inv s → s.deliveries.count ≤ suc n → Good (Left n) (deliver_next s)
unfolding deliver_next
deliver-good n s h w = taking-kept
    (λ d l k. raised_then _ _ _
    (then_kept (move_good n d.fill _ (took-delivery s d l k h) (omega (arith, k.one_less))) (λ u g. then_kept (count-good n _ u g) (λ v g. ran-kept g))))
    (λ e. ran-kept (h, omega (arith, e h.few_deliveries)))

-- ---- the end of data
all-good : (n : ℕ) (s : KernelState) → Inv s → s.deliveries.count ≤ n → Good (Left 0) (deliver_all n s)
unfolding deliver_all
all-good zero s h w = ran-kept (h, w)
all-good (suc n) s h w = then_kept (deliver-good n s h w) (λ t g. all-good n t g.0 g.1)

none_left : {A : Type 0} (f : A → ℕ) (n : ℕ) (l : List A) → n ≤ 0 → 0 + total f (take n l) ≡ 0
unfolding total
none_left f zero l h = omega arith
none_left f (suc n) l h = absurd (omega arith)

-- the queues are emptied, and that moves no lots of the orders
closed : (s : KernelState) → Left 0 s → Closed (live 16 s.msgs) (empty_queues s)
unfolding empty_queues
closed s g =
    let h = g.0 in
    record {
      positions =
          balanced_equal _ _
          (balanced-same _ _ _ _ _ _ (none_left (recorded_on Buy) s.deliveries.count s.deliveries.slots g.1) (none_left (recorded_on Sell) s.deliveries.count s.deliveries.slots g.1) h.balanced);
      lots = λ x. omega (arith, ap (total (carried_on x)) (live_below 16 s.msgs h.few_msgs), h.lots x);
    }

-- the counters and the phase are no part of it
close_good : (s : KernelState) → Left 0 s → Good Inv (close_data s)
unfolding close_data
close_good s g =
    let h = closed s g in
    after_kept (map dropped_event (live 16 s.msgs)) (some-kept _ (λ m. some-kept _ (λ n. ended-kept (record { positions = h.positions; lots = h.lots }, refl)) halt-kept) halt-kept)

pub end_good : (s : KernelState) → Inv s → Good Inv (end_of_data s)
unfolding end_of_data
end_good s h = then_kept (all-good _ s h (omega arith)) close_good
