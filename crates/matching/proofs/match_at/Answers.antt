-- `matching::match_at` meets its contract. Assumes nothing.
use Rattle.reports.proofs.Then.{hands_on}
use Rattle.matching.proofs.Fills.{none_there, unmatched, unruled, no_lots, few_lots, some_lots}
use Rattle.matching.proofs.match_at.Goals as goal

pub returns-in_default : goal.returns-in_default
returns-in_default c = none_there _ _ _ _ _ c.in_default.ensures

pub returns-then-not-matches : goal.returns-then-not-matches
returns-then-not-matches c = unmatched _ _ _ _ _ c.in-Some.ensures c.if-not-matches.ensures

pub returns-in_err-lots : goal.returns-in_err-lots
returns-in_err-lots c = hands_on _ c.from_residual.ensures (unruled _ _ _ _ _ c.in-Some.ensures c.if-not-matches.ensures c.fill_lots.ensures c.in_err-lots.ensures.value)

pub returns-then-lots-eq0 : goal.returns-then-lots-eq0
returns-then-lots-eq0 c = no_lots _ _ _ _ _ c.in-Some.ensures c.if-not-matches.ensures c.fill_lots.ensures c.in_ok-lots.ensures.ok_part c.if-lots-eq0.true

pub fill_at-requires : goal.fill_at-requires
fill_at-requires c = few_lots c.args.cfg.now c.args.row.now c.args.index c.args.s.now c.in-Some.ensures c.if-not-matches.ensures c.fill_lots.ensures c.in_ok-lots.ensures.ok_part c.if-lots-eq0.false

pub returns : goal.returns
returns c = some_lots _ _ _ _ _ c.in-Some.ensures c.if-not-matches.ensures c.fill_lots.ensures c.in_ok-lots.ensures.ok_part c.if-lots-eq0.false c.fill_at.ensures
