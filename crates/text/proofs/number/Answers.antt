-- `text::number` meets its contract. Assumes nothing.
use mathlib.Core.Path.{sym, ◌∙◌}
use native.Mathlib.Omega.{arith}
use Rattle.text.proofs.NumberLaws.{number_empty, number_long, number_short, read_over, read_other, read_more, read_all}
use Rattle.text.proofs.number.Goals as goal
use Rattle.text.proofs.number.Goals.{then-is_empty-via-then-is_empty, then-is_empty-via-else-is_empty+then-field-gt-MOST_DIGITS}

pub returns-then-is_empty : goal.returns-then-is_empty
returns-then-is_empty c = sym
    (elim c.then-is_empty.branch [
      | then-is_empty-via-then-is_empty w ↦ number_empty _ (sym w.if-is_empty.ensures)
      | then-is_empty-via-else-is_empty+then-field-gt-MOST_DIGITS w ↦ number_long _ (omega arith)
    ])

pub loop-b-init : goal.loop-b-init
loop-b-init c = record { fits = omega arith; same = number_short _ (sym c.if-is_empty.ensures) c.if-field-gt-MOST_DIGITS.false }

pub returns-in_err-digit : goal.returns-in_err-digit
returns-in_err-digit c = rw (c.from_residual.ensures, c.loop-b.invariant.same) (read_other c.loop-b.n c.args.field.now c.loop-b.b-index (omega arith) (rw c.from.ensures at c.in_err-digit.ensures.value))

pub returns-in_err-checked_mul : goal.returns-in_err-checked_mul
returns-in_err-checked_mul c = rw (c.from_residual-in_err-checked_mul.ensures, c.loop-b.invariant.same)
    (read_over c.loop-b.n c.args.field.now c.loop-b.b-index (omega arith) (omega (arith, c.in_err-checked_mul.ensures)))

pub returns-in_err-n : goal.returns-in_err-n
returns-in_err-n c =
    let more = read_more c.loop-b.n c.args.field.now c.loop-b.b-index (omega arith) _ (rw c.from.ensures at c.in_ok-digit.ensures.value) in
    rw (c.from_residual-in_err-n.ensures, c.loop-b.invariant.same)
    (read_over c.loop-b.n c.args.field.now c.loop-b.b-index (omega arith) (omega (arith, more.0, c.from-in-loop-b.ensures, c.in_ok-checked_mul.ensures, c.in_err-n.ensures)))

pub loop-b-preserved : goal.loop-b-preserved
loop-b-preserved c =
    let more = read_more c.loop-b.n c.args.field.now c.loop-b.b-index (omega arith) _ (rw c.from.ensures at c.in_ok-digit.ensures.value) in
    record {
      fits = omega (arith, c.in_ok-n.ensures);
      same = c.loop-b.invariant.same ∙ rw (c.in_ok-n.ensures.1, c.in_ok-checked_mul.ensures.1, c.from-in-loop-b.ensures) more.1;
    }

pub returns : goal.returns
returns c = sym (c.loop-b.invariant.same ∙ read_all c.loop-b.n c.args.field.now c.loop-b.b-index (omega arith) c.loop-b.invariant.fits)
