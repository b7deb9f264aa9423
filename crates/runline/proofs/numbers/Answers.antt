-- `runline::numbers` meets its contract. Assumes nothing.
use mathlib.Core.Path.{◌∙◌}
use native.Mathlib.Omega.{arith}
use lib.ListN.{length-set}
use lib.Seq.{drop-drop}
use Rattle.runline.proofs.NumbersLaws.{stopped, went_on, all_read}
use Rattle.runline.proofs.numbers.Goals as goal

pub returns-in_err-word-clause-words : goal.returns-in_err-word-clause-words
returns-in_err-word-clause-words g c = rw (c.from_residual.ensures, c.loop-word.invariant.words) (stopped _ _ _ _ (omega arith) c.in_err-word.ensures.number)

pub loop-word-preserved : goal.loop-word-preserved
loop-word-preserved g c = record {
  long = length-set _ _ _ ∙ c.loop-word.invariant.long;
  words = c.loop-word.invariant.words ∙ rw c.in_ok-word.ensures.rest (went_on _ _ _ _ _ (omega arith) (omega arith) c.in_ok-word.ensures.number);
  rest = c.in_ok-word.ensures.rest ∙ rw (c.loop-word.invariant.rest, drop-drop);
}

pub returns-clause-words : goal.returns-clause-words
returns-clause-words g c = rw c.loop-word.invariant.words (all_read _ _ _ _ (omega arith) (omega arith))
