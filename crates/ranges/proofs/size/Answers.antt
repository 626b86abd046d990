use Rattle.std.proofs.Common.{refl, arith}
use Rattle.ranges.proofs.Tilings.{size_start, size_z, size_hit, size_miss, size_end, aligned_le}
use Rattle.ranges.proofs.size.Goals as goal

pub overflow_step-k : goal.overflow_step-k
overflow_step-k c = omega (arith, aligned_le c.args.s, c.aligned-k.ensures)

pub loop-k-init : goal.loop-k-init
loop-k-init c = record { some = omega arith; down = size_start _ _ _ c.ranges.s.fits (omega (arith, c.aligned-k.ensures)) }

pub overflow_mul-z : goal.overflow_mul-z
overflow_mul-z c = omega (arith, c.loop-k.invariant.down.low)

pub overflow_shl-z : goal.overflow_shl-z
overflow_shl-z c = omega (arith, c.loop-k.invariant.down.low)

pub overflow_add-s : goal.overflow_add-s
overflow_add-s c = omega (arith, (size_z _ _ c.loop-k.invariant.down.low refl).1, c.requires.0, c.requires.1)

pub returns-then-s-z : goal.returns-then-s-z
returns-then-s-z c = size_hit _ _ _ _ c.ranges.s.fits c.loop-k.invariant.down (omega (arith, c.loop-k-test.true)) refl c.if-s-z.true

pub loop-k-preserved : goal.loop-k-preserved
loop-k-preserved c = record {
  some = omega (arith, c.loop-k-test.true);
  down = size_miss _ _ _ _ c.ranges.s.fits c.loop-k.invariant.down (omega (arith, c.loop-k-test.true)) refl c.if-s-z.false;
}

pub returns : goal.returns
returns c = size_end _ _ _ c.loop-k.invariant.down (omega (arith, c.loop-k-test.false))
