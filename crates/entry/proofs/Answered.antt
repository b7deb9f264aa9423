-- Whether a call ran, by the paper's number of its answer: no refusal has the number 0. Assumes nothing.
use mathlib.Core.Path.{◌≡◌, refl}
use lib.Dec.{eqb}
use Rattle.std.specs.Prelude.{Result, Ok, Err, is_ok}
use Rattle.state.specs.declared.Refusal.{Refusal}
use Rattle.state.specs.declared.Refusal.TheVariants.{RowWords, ListCount, NotPaused, NoResume, StepLimit, QueueMinimum}
use Rattle.entry.specs.Entry.{answer_number}

pub ran_by : (r : Result (Unit {0}) Refusal) → is_ok r ≡ eqb (answer_number r) 0
ran_by (Ok v) = refl
ran_by (Err RowWords) = refl
ran_by (Err ListCount) = refl
ran_by (Err NotPaused) = refl
ran_by (Err NoResume) = refl
ran_by (Err StepLimit) = refl
ran_by (Err QueueMinimum) = refl
