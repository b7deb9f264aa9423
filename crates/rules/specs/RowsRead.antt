-- Which rows a call can read: a claim of our own beside N8. The proof is proofs/RowsRead.antt.
use Rattle.std.specs.Prelude.{ℕ, ◌+◌, ◌-◌, ◌%◌, ◌≤◌, ◌<◌, List, ◌≡◌, length, Some}
use Rattle.book.specs.declared.config.Config.{Config}
use Rattle.state.specs.declared.KernelState.{KernelState}
use Rattle.rules.specs.Calls.{advance}
use Rattle.rules.specs.Phases.{row_at}

-- two lists have the same row i, or both none
abbrev pub Alike : List ℕ → List ℕ → ℕ → Type 0
Alike u v i = row_at u i ≡ row_at v i

-- alike at `cur_row`, if it is set, and from the cursor on at as many rows as N8 lets a call take up
pub record AlikeFrom (u v : List ℕ) (s : KernelState) : Type 0 where
  pub current : (i : ℕ) → s.control.cur_row ≡ Some i → Alike u v i
  pub onward : (i : ℕ) → s.control.cursor ≤ i → i < s.control.cursor + (17 - s.observed.count) → Alike u v i

-- two lists that are alike there, of whole rows or both not, give the same answer: of any other row the call does not even learn whether there is one
abbrev pub RowsRead : Config → List ℕ → List ℕ → KernelState → Type 0
RowsRead c u v s = length u % 5 ≡ length v % 5 → AlikeFrom u v s → advance c u s ≡ advance c v s
