-- What 102 asks of the lists, count by count. Assumes nothing.
use Prim.Native.Nat.{◌≤◌}
use mathlib.Core.Bool.{true}
use mathlib.Core.Path.{◌≡◌}
use lib.Dec.{leb}
use borrow.Author.Tests.{leb-true}
use Rattle.state.specs.declared.KernelState.{KernelState}
use Rattle.rules.specs.Calls.{counts_fit}
use Rattle.rules.proofs.Cases.{both}

pub record Fitting (s : KernelState) : Type 0 where
  pub orders : s.orders.count ≤ 8
  pub msgs : s.msgs.count ≤ 16
  pub deliveries : s.deliveries.count ≤ 24
  pub observed : s.observed.count ≤ 16

pub counts-fitting : (s : KernelState) → counts_fit s ≡ true → Fitting s
unfolding counts_fit
counts-fitting s e =
    let a = both _ (leb s.account.count 8) e in
    let b = both _ (leb s.observed.count 16) a.0 in
    let c = both _ (leb s.deliveries.count 24) b.0 in
    let d = both _ (leb s.awaiting.count 8) c.0 in
    let f = both (leb s.orders.count 8) (leb s.msgs.count 16) d.0 in
    record { orders = leb-true _ _ f.0; msgs = leb-true _ _ f.1; deliveries = leb-true _ _ c.1; observed = leb-true _ _ b.1 }
