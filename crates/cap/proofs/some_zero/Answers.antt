-- `cap::some_zero` meets its contract.
use native.Mathlib.Omega.{arith}
use Rattle.cap.proofs.Siblings.{product_le}
use Rattle.cap.proofs.some_zero.Goals as goal

pub overflow_mul-result : goal.overflow_mul-result
overflow_mul-result c = omega (arith, product_le c.args.a c.args.b c.args.c c.args.d c.requires.0 c.requires.1 c.requires.2 c.requires.3)

pub overflow_mul-result-2 : goal.overflow_mul-result-2
overflow_mul-result-2 c = omega (arith, product_le c.args.a c.args.b c.args.c c.args.d c.requires.0 c.requires.1 c.requires.2 c.requires.3)

pub overflow_mul-result-3 : goal.overflow_mul-result-3
overflow_mul-result-3 c = omega (arith, product_le c.args.a c.args.b c.args.c c.args.d c.requires.0 c.requires.1 c.requires.2 c.requires.3)
