-- The pass over the orders, the sweep, and the row. Assumes nothing.
use Prim.Native.Nat.{ℕ, zero, suc, ◌+◌, ◌-◌, ◌≤◌, ◌<◌, min}
use mathlib.Core.Bool.{true, false}
use mathlib.Core.Path.{◌≡◌, refl, sym, ap, ◌∙◌}
use native.Mathlib.Omega.{arith}
use Rattle.std.specs.Prelude.{Option, Some, None, Result, Ok, Err, ok_or}
use Rattle.numbers.specs.Choice.{pick, on_some}
use Rattle.numbers.specs.Words.{fitting}
use Rattle.lists.specs.Lists.{entry_at, taken_at, taken_of}
use Rattle.lists.proofs.Cases.{none_of, enough_turns}
use Rattle.lists.proofs.Exits.{entry_over, none_same}
use Rattle.lists.specs.declared.Counted.{Counted}
use Rattle.book.specs.Capacities.{orders_capacity}
use Rattle.book.specs.Entries.{blank_order}
use Rattle.orders.specs.Rows.{Orders}
use Rattle.state.specs.With.{with_orders, with_gate}
use Rattle.book.specs.declared.VenueOrder.{VenueOrder}
use Rattle.book.specs.declared.config.Config.{Config}
use Rattle.book.specs.declared.config.KernelTick.{KernelTick}
use Rattle.state.specs.declared.GateState.{GateState}
use Rattle.state.specs.declared.HaltReason.{HaltReason}
use Rattle.state.specs.declared.HaltReason.TheVariants.{LedgerOverflow}
use Rattle.state.specs.declared.KernelState.{KernelState}
use Rattle.rules.specs.Run.{ran_to, halt_at, and_then, taking}
use Rattle.rules.specs.Messages.{remove_expiry, await_marked}
use Rattle.rules.specs.Matching.{fills_at, match_at, match_from, leave, terminal_at, sweep_from, sweep, gate_marked, match_row}
use Rattle.reports.specs.Log.{Logged, expected, actual, halting, run_of}
use Rattle.reports.specs.declared.Stop.{Stop}
use Rattle.reports.specs.declared.Stop.TheVariants as stop
use Rattle.reports.proofs.Then.{quiet, then_on, then_stop, ran_here, halted_here}

-- ---- where no turn does anything: the count is above the capacity, and no order stands at any place
match_idle : (c : Config) (row : KernelTick) (s : KernelState) → ((i : ℕ) → match_at c row i s ≡ ran_to s) → (k i : ℕ) → match_from c row k i s ≡ ran_to s
unfolding match_from and_then
match_idle c row s h zero i = refl
match_idle c row s h (suc k) i = rw (h i) (match_idle c row s h k (i + 1))

pub sweep_idle : (s : KernelState) → ((i : ℕ) → terminal_at i s ≡ false) → (k i : ℕ) → sweep_from k i s ≡ ran_to s
unfolding sweep_from and_then pick
sweep_idle s h zero i = refl
sweep_idle s h (suc k) i = rw (h i) (sweep_idle s h k (i + 1))

module _ (s : KernelState) (h : 8 < s.orders.count) where
  no_order : (i : ℕ) → None ≡ entry_at orders_capacity blank_order i s.orders
  no_order i = entry_over 8 s.orders blank_order i h

  match_above : (c : Config) (row : KernelTick) (k i : ℕ) → match_from c row k i s ≡ ran_to s
  unfolding match_at fills_at on_some
  match_above c row = match_idle c row s (λ i. rw (← no_order i))

  sweep_above : (k i : ℕ) → sweep_from k i s ≡ ran_to s
  unfolding terminal_at on_some
  sweep_above = sweep_idle s (λ i. rw (← no_order i))

-- as many looks as there are orders, and no more than places, are all
module _ (s : KernelState) (looks : ℕ) (h : looks ≡ min s.orders.count orders_capacity) where
  pub all_matched : (c : Config) (row : KernelTick) → match_from c row (looks - 0) 0 s ≡ match_from c row s.orders.count 0 s
  all_matched c row = enough_turns (λ k. match_from c row k 0 s) (ran_to s) s.orders.count 8 (λ k i. match_above s k c row i 0) (omega (arith, h))

  pub all_swept : sweep_from (looks - 0) 0 s ≡ sweep s
  unfolding sweep
  all_swept = enough_turns (λ k. sweep_from k 0 s) (ran_to s) s.orders.count 8 (λ k i. sweep_above s k i 0) (omega (arith, h))

-- ---- the pass: n places in all, i before this one
module _ (c : Config) (row : KernelTick) (n i : ℕ) (l : Logged) (s : KernelState) where
  pub pass_end : n ≤ i → actual (Ok tt) s l ≡ expected l (match_from c row (n - i) i s)
  unfolding match_from
  pass_end h = let z : n - i ≡ 0 = omega arith in rw z (ran_here l s)

  module _ (h : i < n) where
    match_turn : match_from c row (n - i) i s ≡ and_then (match_at c row i s) (match_from c row (n - (i + 1)) (i + 1))
    unfolding match_from
    match_turn = let z : n - i ≡ suc (n - (i + 1)) = omega arith in rw z

    pub pass_on : {t : KernelState} {m : Logged} → actual (Ok tt) t m ≡ expected l (match_at c row i s)
        → expected m (match_from c row (n - (i + 1)) (i + 1) t) ≡ expected l (match_from c row (n - i) i s)
    pass_on e = then_on l _ _ e refl ∙ ap (expected l) (sym match_turn)

    pub pass_stop : {t : KernelState} {m : Logged} {w : Stop} → actual (Err w) t m ≡ expected l (match_at c row i s)
        → actual (Err w) t m ≡ expected l (match_from c row (n - i) i s)
    pass_stop e = then_stop l _ _ e ∙ ap (expected l) (sym match_turn)

-- ---- an order that leaves
module _ (i : ℕ) (s : KernelState) {a : Counted (Option VenueOrder)} {l : Orders} where
  pub leave_none : a.answer ≡ None → taken_of a l ≡ taken_at orders_capacity blank_order i s.orders → ran_to (with_orders s l) ≡ leave i s
  unfolding leave taking on_some
  leave_none q e = rw (none_same orders_capacity s.orders blank_order i q e, ← e, q)

  pub leave_on : {o : VenueOrder} {t : KernelState} (u : KernelState) (r : Result (Unit {0}) HaltReason) → a.answer ≡ Some o → taken_of a l ≡ taken_at orders_capacity blank_order i s.orders
      → t ≡ remove_expiry o.id (with_orders s l) → run_of r u ≡ await_marked o t → run_of r u ≡ leave i s
  unfolding leave taking on_some
  leave_on u r q e h k = rw (← e, q, ← h) k

-- ---- the sweep: n looks in all, i before this one
module _ (n i place : ℕ) (s : KernelState) where
  pub sweep_end : n ≤ i → ran_to s ≡ sweep_from (n - i) place s
  unfolding sweep_from
  sweep_end h = let z : n - i ≡ 0 = omega arith in rw z

  module _ (h : i < n) where
    sweep_turn : sweep_from (n - i) place s ≡ and_then (pick (terminal_at place s) (leave place s) (ran_to s)) (sweep_from (n - (i + 1)) (pick (terminal_at place s) place (place + 1)))
    unfolding sweep_from
    sweep_turn = let z : n - i ≡ suc (n - (i + 1)) = omega arith in rw z

    pub look_past : false ≡ terminal_at place s → sweep_from (n - (i + 1)) (place + 1) s ≡ sweep_from (n - i) place s
    unfolding pick and_then
    look_past t = rw (sweep_turn, ← t)

    pub look_on : {u : KernelState} → true ≡ terminal_at place s → ran_to u ≡ leave place s → sweep_from (n - (i + 1)) place u ≡ sweep_from (n - i) place s
    unfolding pick and_then
    look_on t e = rw (sweep_turn, ← t, ← e)

    pub look_stop : {u : KernelState} {r : HaltReason} → true ≡ terminal_at place s → halt_at r u ≡ leave place s → halt_at r u ≡ sweep_from (n - i) place s
    unfolding pick and_then
    look_stop t e = rw (sweep_turn, ← t, ← e)

-- ---- the row
module _ (l : Logged) (c : Config) (row : KernelTick) (s : KernelState) {mid2 : Option ℕ} (e : mid2 ≡ fitting (row.bid + row.ask)) where
  pub row_overflow : {h : HaltReason} → Err h ≡ ok_or mid2 LedgerOverflow → actual (Err (stop.Halt h)) s l ≡ expected l (match_row c row s)
  unfolding match_row on_some
  row_overflow q = let w = none_of mid2 q in rw (← e, w.0, w.1) (halted_here l LedgerOverflow s)

  module _ {x : ℕ} (k : mid2 ≡ Some x) {g : GateState} (eg : g ≡ gate_marked x s.gate) {t : KernelState} {m : Logged} where
    pub row_stop : {w : Stop} → actual (Err w) t m ≡ expected l (match_from c row s.orders.count 0 (with_gate s g)) → actual (Err w) t m ≡ expected l (match_row c row s)
    unfolding match_row on_some
    row_stop q = rw (← e, k, ← eg) (then_stop l _ _ q)

    pub row_swept : {u : KernelState} (r : Result (Unit {0}) HaltReason) → actual (Ok tt) t m ≡ expected l (match_from c row s.orders.count 0 (with_gate s g)) → run_of r u ≡ sweep t
        → actual (halting r) u m ≡ expected l (match_row c row s)
    unfolding match_row on_some
    row_swept {u} r q h = rw (← e, k, ← eg) (then_on l _ _ q (quiet m r u h))
