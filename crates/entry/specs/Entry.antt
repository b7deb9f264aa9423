-- The paper's number of what the tests of a call answer, and what a pass leaves.
use Rattle.std.specs.Prelude.{ℕ, [], Option, Some, None, Result, Ok, Err}
use Rattle.state.specs.Numbers.{refusal_number}
use Rattle.state.specs.declared.KernelState.{KernelState}
use Rattle.state.specs.declared.Refusal.{Refusal}
use Rattle.rules.specs.Calls as calls

-- the paper's number of an answer: the refusal's, 0 where the call ran
abbrev pub answer_number : Result (Unit {0}) Refusal → ℕ
answer_number (Ok v) = 0
answer_number (Err r) = refusal_number r

-- the number of a refusal, none where the call runs
abbrev pub refused_with : Result (Unit {0}) Refusal → Option ℕ
refused_with (Ok v) = None
refused_with (Err r) = Some (refusal_number r)

-- what the caller of a pass is handed: it is lent no log and raises no event
abbrev pub passed : Result (Unit {0}) Refusal → KernelState → calls.Result
passed r s = record { answer = answer_number r; state = s; log = []; count = 0 }
