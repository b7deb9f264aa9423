-- `runtext::read_lines` meets its contract. Assumes nothing.
use Rattle.std.proofs.Common.{rules}
use mathlib.Core.Path.{sym, ◌∙◌}
use mathlib.Core.List.{[], ◌∷◌}
use native.Mathlib.Omega.{arith}
use lib.Dec.{eqb}
use Rattle.std.proofs.lemmas.Bool.Decides.{Decides-eqb}
use Rattle.std.proofs.lemmas.Fn.{always_returns_same}
use Rattle.std.proofs.lemmas.Grind.{common_steps}
use Rattle.std.proofs.lemmas.Option.{MatchOption-at_none, MatchOption-at_some}
use Rattle.std.proofs.lemmas.Result.{err_from_is_err_and}
use Rattle.std.proofs.lemmas.Slice.Eq.{strip_suffix_is}
use Rattle.lists.proofs.Cases.{none_of}
use Rattle.runtext.proofs.ReadLaws.{retired, whole, too_few, unended, is_taken, is_bad, line_taken, line_bad, too_long, not_long, piece_ended, piece_unended}
use Rattle.runtext.proofs.read_lines.Goals as goal

pub returns-then-text-gt-MOST_BYTES-clause-reads : goal.returns-then-text-gt-MOST_BYTES-clause-reads
returns-then-text-gt-MOST_BYTES-clause-reads c = sym (too_long _ _ c.if-text-gt-MOST_BYTES.true)

pub returns-in_err-line-clause-reads : goal.returns-in_err-line-clause-reads
returns-in_err-line-clause-reads c =
    let s = c.in-Some.ensures.steps in
    let first = (s.1.2 (λ b. eqb b 10) (always_returns_same _ _ _ (λ a r f k. search rules))).1 in
    let none = MatchOption-at_none _ _ c.in_err-line.ensures.ok_part (strip_suffix_is Decides-eqb _ (10 ∷ []) _ c.strip_suffix.ensures.cases) in
    let p = err_from_is_err_and c.from_residual.result c.from_residual.ensures.1 in
    rw (p.1, p.2, (none_of _ c.in_err-line.ensures.value).1) (sym (not_long _ _ c.if-text-gt-MOST_BYTES.false ∙ c.loop-piece.invariant.same ∙ unended _ _ _ s.2 (piece_unended _ _ _ _ s.0 s.1.1 first none)))

pub returns-in_err-or-clause-reads : goal.returns-in_err-or-clause-reads
returns-in_err-or-clause-reads c =
    let s = c.in-Some.ensures.steps in
    let first = (s.1.2 (λ b. eqb b 10) (always_returns_same _ _ _ (λ a r f k. search rules))).1 in
    let line = piece_ended _ _ _ _ s.0 s.1.1 first _ (MatchOption-at_some _ _ _ c.in_ok-line.ensures.ok_part (strip_suffix_is Decides-eqb _ (10 ∷ []) _ c.strip_suffix.ensures.cases)) in
    let e = is_bad _ _ _ _ c.take_text.ensures c.in_err-or.ensures in
    let p = err_from_is_err_and c.from_residual-in_err-or.result c.from_residual-in_err-or.ensures.1 in
    rw (p.1, p.2, e.1, e.2) (sym (not_long _ _ c.if-text-gt-MOST_BYTES.false ∙ c.loop-piece.invariant.same ∙ line_bad _ _ _ _ _ line e.0))

pub loop-piece-preserved : goal.loop-piece-preserved
loop-piece-preserved c =
    let i = c.loop-piece.invariant in
    let s = c.in-Some.ensures.steps in
    let first = (s.1.2 (λ b. eqb b 10) (always_returns_same _ _ _ (λ a r f k. search rules))).1 in
    let line = piece_ended _ _ _ _ s.0 s.1.1 first _ (MatchOption-at_some _ _ _ c.in_ok-line.ensures.ok_part (strip_suffix_is Decides-eqb _ (10 ∷ []) _ c.strip_suffix.ensures.cases)) in
    record {
      few = grind (arith, common_steps, i.few, s.0, s.1.1, s.2);
      same = i.same ∙ line_taken _ _ _ _ _ line _ (is_taken _ _ _ _ c.take_text.ensures c.in_ok-or.ensures);
      lent = c.take_text.ensures.2 ∙ i.lent;
    }

pub returns-then-n-lt-HEAD_LINES-clause-reads : goal.returns-then-n-lt-HEAD_LINES-clause-reads
returns-then-n-lt-HEAD_LINES-clause-reads c = sym (not_long _ _ c.if-text-gt-MOST_BYTES.false ∙ c.loop-piece.invariant.same ∙ too_few _ _ _ c.in-None.ensures.steps.0 c.if-n-lt-HEAD_LINES.true)

pub returns-then-has_minimum-clause-reads : goal.returns-then-has_minimum-clause-reads
returns-then-has_minimum-clause-reads c =
    sym (not_long _ _ c.if-text-gt-MOST_BYTES.false ∙ c.loop-piece.invariant.same ∙ retired _ _ _ c.in-None.ensures.steps.0 c.if-n-lt-HEAD_LINES.false c.if-has_minimum.ensures)

pub returns-clause-reads : goal.returns-clause-reads
returns-clause-reads c =
    sym (not_long _ _ c.if-text-gt-MOST_BYTES.false ∙ c.loop-piece.invariant.same ∙ whole _ _ _ c.in-None.ensures.steps.0 c.if-n-lt-HEAD_LINES.false c.if-has_minimum.ensures)
