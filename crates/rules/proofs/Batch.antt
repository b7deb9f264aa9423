-- A batch of calls: with no pass it is `advance`, and its state is one that a list of calls leads to, so that what is conserved over every list of calls is conserved over it. Assumes nothing.
use Prim.Native.Nat.{ℕ, zero, suc}
use mathlib.Core.List.{List, [], ◌++◌}
use mathlib.Core.Path.{◌≡◌, refl}
use Rattle.lists.proofs.Cases.{pick_both}
use Rattle.book.specs.declared.config.Config.{Config}
use Rattle.state.specs.declared.KernelEvent.{KernelEvent}
use Rattle.state.specs.declared.KernelState.{KernelState}
use Rattle.rules.specs.Calls.{Answer, advance, pass}
use Rattle.rules.specs.Conservation.{Call}
use Rattle.rules.specs.Batch.{Batch, ending, goes_on, run_from, run, calls_from, state_after}

pub run_none : (c : Config) (rows : List ℕ) (records : ℕ) (s : KernelState) → run c rows records 0 s ≡ ending [] (advance c rows s)
unfolding run_from
run_none c rows records s = refl

from-calls : (c : Config) (rows : List ℕ) (records k : ℕ) (es : List KernelEvent) (s : KernelState) → (run_from c rows records k es s).state ≡ state_after (calls_from c rows records k es s) s
unfolding run_from calls_from state_after
from-calls c rows records zero es s = refl
from-calls c rows records (suc k) es s =
    let a : Answer = advance c rows s in
    pick_both (λ (x : Batch) (cs : List Call). x.state ≡ state_after cs a.state) (goes_on records es a) _ _ _ _ (λ _. from-calls c rows records k (es ++ a.events) (pass a.state).state) (λ _. refl)

pub run-calls : (c : Config) (rows : List ℕ) (records k : ℕ) (s : KernelState) → (run c rows records k s).state ≡ state_after (calls_from c rows records k [] s) s
run-calls c rows records k s = from-calls c rows records k [] s
