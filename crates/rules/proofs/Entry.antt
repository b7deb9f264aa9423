-- What is tested when a call of `advance` begins. Assumes nothing.
use Rattle.std.specs.Prelude.{Option, None}
use Prim.Native.Nat.{ℕ, ◌%◌}
use mathlib.Core.Bool.{true, false}
use mathlib.Core.List.{List}
use mathlib.Core.Path.{◌≡◌}
use lib.Dec.{eqb}
use lib.ListN.{length}
use Rattle.numbers.specs.Choice.{pick}
use Rattle.lists.proofs.Cases.{pick_case, some_case, different}
use Rattle.book.specs.Modes.{has_minimum}
use Rattle.book.specs.declared.config.Config.{Config}
use Rattle.state.specs.declared.KernelState.{KernelState}
use Rattle.rules.specs.Phases.{phases}
use Rattle.rules.specs.Calls.{Answer, refuse, answer, counts_fit, entry_refusal, advance}

-- a call that is not refused passed each test
module _ (c : Config) (words : ℕ) (s : KernelState) (e : entry_refusal c words s ≡ None) where
  passed_each : (eqb (words % 5) 0 ≡ true) × (counts_fit s ≡ true) × (has_minimum c.fill ≡ false)
  unfolding entry_refusal
  passed_each =
      let Passed : Option ℕ → Type 0 = λ o. o ≡ None → (eqb (words % 5) 0 ≡ true) × (counts_fit s ≡ true) × (has_minimum c.fill ≡ false) in
      pick_case Passed _ _ _ (λ five. pick_case Passed _ _ _ (λ fit. pick_case Passed _ _ _ (λ _ n. different cc) (λ least _. (five, fit, least))) (λ _ n. different cc)) (λ _ n. different cc) e

  pub runs_fit : counts_fit s ≡ true
  runs_fit = passed_each.1

  -- nor is a later one of the same configuration and rows refused, where the counts fit
  pub runs_again : (t : KernelState) → counts_fit t ≡ true → entry_refusal c words t ≡ None
  unfolding entry_refusal pick
  runs_again t f = let p = passed_each in rw (p.0, f, p.2)

-- what is so of one that is refused and of one that runs is so of every call
pub advance_case : (P : Answer → Type 0) (c : Config) (rows : List ℕ) (s : KernelState) → (counts_fit s ≡ true → P (answer (phases c rows s))) → ((n : ℕ) → P (refuse n s)) → P (advance c rows s)
unfolding advance
advance_case P c rows s h g = some_case P _ _ _ (λ n _. g n) (λ e. h (runs_fit c (length rows) s e))
