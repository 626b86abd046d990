use native.Mathlib.Omega.{arith}
use Prim.Native.Nat.{◌*◌, ◌/◌, ◌^◌}
use lib.Bits.{and_mask}
use Rattle.hilbert.proofs.four_bits.Goals as goal

pub overflow_mul-result-2 : goal.overflow_mul-result-2
overflow_mul-result-2 c = omega (arith, and_mask (c.args.i / 2 ^ (4 * c.args.k)) 4)

pub overflow_add-result : goal.overflow_add-result
overflow_add-result c = omega (arith, and_mask (c.args.i / 2 ^ (4 * c.args.k)) 4, and_mask (c.args.j / 2 ^ (4 * c.args.k)) 4)

pub returns : goal.returns
returns c = omega (arith, and_mask (c.args.i / 2 ^ (4 * c.args.k)) 4, and_mask (c.args.j / 2 ^ (4 * c.args.k)) 4)
