-- `numbers::words::wrapping_mul` meets its contract. Assumes nothing.
use Rattle.std.proofs.Common.{arith}
use Rattle.numbers.proofs.Products.{by_halves, halves}
use Rattle.numbers.proofs.words.wrapping_mul.Goals as goal

pub overflow_mul-cross : goal.overflow_mul-cross
overflow_mul-cross c = omega (arith, halves c.args.a c.args.b c.ranges.a c.ranges.b)

pub overflow_mul-cross-2 : goal.overflow_mul-cross-2
overflow_mul-cross-2 c = omega (arith, halves c.args.a c.args.b c.ranges.a c.ranges.b)

pub overflow_mul-result : goal.overflow_mul-result
overflow_mul-result c = omega (arith, halves c.args.a c.args.b c.ranges.a c.ranges.b)

pub returns : goal.returns
returns c = omega (arith, by_halves c.args.a c.args.b)
