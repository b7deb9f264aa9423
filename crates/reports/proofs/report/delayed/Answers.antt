-- `reports::report::delayed` meets its contract. Assumes nothing.
use Rattle.reports.proofs.Reports.{delayed_by}
use Rattle.reports.proofs.report.delayed.Goals as goal

pub returns : goal.returns
returns c k = let g = c.args in delayed_by g.cfg.now g.from g.base_q g.s.now k _ _ _ c.delayed.ensures c.ok_or.ensures.value
