-- `batch::call` meets its contract, by the laws of `Calls`. Assumes nothing.
use Rattle.batch.proofs.Calls.{call_ran, call_left, call_halted, call_ended}
use Rattle.batch.proofs.call.Goals as goal

pub returns-in-Ok : goal.returns-in-Ok
returns-in-Ok c = call_ran _ _ c.in-Ok.ensures

pub returns-in-Err-Left : goal.returns-in-Err-Left
returns-in-Err-Left c = call_left _ _ (rw c.in-Err-Left.field-0-is at c.in-Err-Left.ensures)

pub returns-in-Err-Halt : goal.returns-in-Err-Halt
returns-in-Err-Halt c = call_halted _ _ (rw c.in-Err-Halt.field-0-is at c.in-Err-Halt.ensures) c.halt.ensures.state c.halt.ensures.event

pub returns-in-Err-Ended : goal.returns-in-Err-Ended
returns-in-Err-Ended c = call_ended _ _ (rw c.in-Err-Ended.field-0-is at c.in-Err-Ended.ensures)
