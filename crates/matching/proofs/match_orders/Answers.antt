-- `matching::match_orders` meets its contract: from each place on, the rest of the pass gives what the whole gives. Assumes nothing.
use Rattle.std.proofs.Common.{ap, ◌∙◌}
use Rattle.reports.specs.Log.{expected}
use Rattle.reports.proofs.Then.{hands_on}
use Rattle.matching.proofs.Passes.{all_matched, pass_end, pass_on, pass_stop}
use Rattle.matching.proofs.match_orders.Goals as goal

pub loop-index-init : goal.loop-index-init
loop-index-init c = ap (expected _) (all_matched _ _ c.min-looks.ensures _ _)

pub returns-in_err-match_at : goal.returns-in_err-match_at
returns-in_err-match_at c =
    hands_on _ c.from_residual.ensures (pass_stop _ _ _ _ _ _ c.loop-index-test.true c.in_err-match_at.ensures ∙ c.loop-index.invariant)

pub loop-index-preserved : goal.loop-index-preserved
loop-index-preserved c = pass_on _ _ _ _ _ _ c.loop-index-test.true c.in_ok-match_at.ensures ∙ c.loop-index.invariant

pub returns : goal.returns
returns c = pass_end _ _ _ _ _ _ c.loop-index-test.false ∙ c.loop-index.invariant
