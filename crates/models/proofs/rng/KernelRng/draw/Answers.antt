-- `models::rng::KernelRng::draw` meets its contract. Assumes nothing.
use borrow.Author.Tests.{eq-eqb, ne_eqb}
use Rattle.numbers.specs.Choice.{pick}
use Rattle.rules.specs.Generator.{next_state, output, draw}
use Rattle.models.proofs.Numbers.{whole}
use Rattle.models.proofs.rng.KernelRng.draw.Goals as goal

pub returns-then-max-eq0 : goal.returns-then-max-eq0
unfolding pick next_state output draw
returns-then-max-eq0 c = simp (eq-eqb _ _ c.if-max-eq0.true)

pub returns-then-max-eq18446744073709551615 : goal.returns-then-max-eq18446744073709551615
unfolding pick next_state output draw
returns-then-max-eq18446744073709551615 c = rw (ne_eqb _ _ c.if-max-eq0.false, ← whole _ _ _ c.wrapping_mul-value.ensures c.if-max-eq18446744073709551615.true)

pub returns : goal.returns
unfolding pick next_state output draw
returns c = simp (ne_eqb _ _ c.if-max-eq0.false, c.wrapping_mul-value.ensures)
