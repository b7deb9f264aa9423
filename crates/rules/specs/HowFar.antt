-- N8, "How far can one call go?": what is claimed of every call of `advance`, whatever its configuration, its rows and its state, and whatever it does. The proof is proofs/HowFar.antt; that no smaller number than 17 would do, proofs/Farthest.antt.
use Rattle.std.specs.Prelude.{ℕ, ◌+◌, ◌-◌, ◌≤◌, List}
use Rattle.book.specs.declared.config.Config.{Config}
use Rattle.state.specs.declared.KernelState.{KernelState}
use Rattle.rules.specs.Calls.{advance}

-- "If a call starts with L observations queued, the cursor rises by at most 17 less L." It never falls, and a refused call leaves it
pub record HowFar (c : Config) (rows : List ℕ) (s : KernelState) : Type 0 where
  pub least : s.control.cursor ≤ (advance c rows s).state.control.cursor
  pub most : (advance c rows s).state.control.cursor ≤ s.control.cursor + (17 - s.observed.count)
