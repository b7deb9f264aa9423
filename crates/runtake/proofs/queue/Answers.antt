-- `runtake::queue` meets its contract. Assumes nothing.
use Rattle.std.specs.Prelude.{Result, Ok, Err, OnErr}
use Rattle.lists.proofs.Exits.{full_same}
use Rattle.runtake.proofs.queue.Goals as goal

on_err : {A E : Type 0} {P : Type 0} (r : Result A E) → P → OnErr r P
on_err (Ok x) p = tt
on_err (Err e) p = p

pub returns-in_err-insert_by_key-clause-keeps : goal.returns-in_err-insert_by_key-clause-keeps
returns-in_err-insert_by_key-clause-keeps c = on_err _ (full_same _ _ _ _ c.in_err-insert_by_key.was c.insert_by_key.ensures)
