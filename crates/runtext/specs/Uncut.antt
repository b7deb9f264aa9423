-- "a call raising more then adds `cut`": what is claimed of every call from the start of a run text. The proof is proofs/Uncut.antt.
use Rattle.std.specs.Prelude.{ℕ, ◌≤◌, List, length}
use Rattle.book.specs.declared.config.Config.{Config}
use Rattle.state.specs.declared.KernelState.{KernelState}
use Rattle.rules.specs.Batch.{state_after}
use Rattle.rules.specs.Calls.{advance}
use Rattle.rules.specs.Conservation.{Call}

-- behind every list of calls from s, a call raises at most 498 events, whatever its configuration and rows: "The log is 512 records" is never too short
abbrev pub Uncut : KernelState → Type 0
Uncut s = (calls : List Call) (c : Config) (rows : List ℕ) → length (advance c rows (state_after calls s)).events ≤ 498
