-- `day::Progress::turns` meets its contract, by the laws of `TurnExits`. Assumes nothing.
use Rattle.std.proofs.Common.{rules}
use Rattle.day.proofs.TurnExits.{ends, goes_on_lem, prints}
use Rattle.day.proofs.Progress.turns.Goals as goal

pub returns-then-is_terminal : goal.returns-then-is_terminal
returns-then-is_terminal c = let o = ends c.args.cfg.now c.args.rows.now c.args.self.now _ _ c.run-a.result _ c.run-a.ensures _ c.put_lines.ensures _ c.add_filled-self.ensures
    c.is_terminal.result c.is_terminal.ensures c.if-is_terminal.true in record {
      whole_outcome = o;
      prints_turns = prints c.args.cfg.now c.args.rows.now c.args.self.now _ _ c.run-a.result _ c.run-a.ensures _ c.put_lines.ensures _ c.add_filled-self.ensures
          _ _ o (λ i. search rules) c.run-a.auto.log;
    }

pub returns : goal.returns
returns c = let o = goes_on_lem c.args.cfg.now c.args.rows.now c.args.self.now _ _ c.run-a.result _ c.run-a.ensures _ c.put_lines.ensures _ c.add_filled-self.ensures
    c.is_terminal.result c.is_terminal.ensures c.if-is_terminal.false c.pass-passed.result c.pass-passed.ensures c.is_ok.result c.is_ok.ensures.value in record {
      whole_outcome = o;
      prints_turns = prints c.args.cfg.now c.args.rows.now c.args.self.now _ _ c.run-a.result _ c.run-a.ensures _ c.put_lines.ensures _ c.add_filled-self.ensures
          _ _ o (λ i. search rules) c.run-a.auto.log;
    }
