use mathlib.Core.Path.{refl}
use native.Mathlib.Omega.{arith}
use Rattle.ranges.proofs.Looks.{pair_bad, pair_fine, pair_room, pair_on, pairs_whole, pairs_odd}
use Rattle.ranges.proofs.look_pairs.Goals as goal

pub follows-requires : goal.follows-requires
follows-requires c = tt

pub loop-i-init : goal.loop-i-init
loop-i-init c = record { within = omega arith; same = refl; count = omega arith; low = omega arith }

pub overflow_add-i : goal.overflow_add-i
overflow_add-i c = omega (arith, c.loop-i.invariant.within)

pub returns-then-not-follows : goal.returns-then-not-follows
returns-then-not-follows c = pair_bad _ _ _ _ _ c.loop-i.invariant c.loop-i-test.true c.follows.ensures c.if-not-follows.true

pub overflow_add-last-in-loop-i : goal.overflow_add-last-in-loop-i
overflow_add-last-in-loop-i c = omega (arith, (pair_fine _ _ _ _ c.follows.ensures c.if-not-follows.false).to)

pub count-cells-requires : goal.count-cells-requires
count-cells-requires c = let S = pair_fine _ _ _ _ c.follows.ensures c.if-not-follows.false in (S.up, S.world)

pub overflow_add-cells : goal.overflow_add-cells
overflow_add-cells c = omega (arith, pair_room _ _ _ _ _ _ c.loop-i.invariant c.follows.ensures c.if-not-follows.false c.count-cells.ensures, (pair_fine _ _ _ _ c.follows.ensures c.if-not-follows.false).to)

pub overflow_add-from : goal.overflow_add-from
overflow_add-from c = omega (arith, (pair_fine _ _ _ _ c.follows.ensures c.if-not-follows.false).to)

pub loop-i-preserved : goal.loop-i-preserved
loop-i-preserved c = pair_on _ _ _ _ _ _ c.loop-i.invariant c.loop-i-test.true c.follows.ensures c.if-not-follows.false c.count-cells.ensures

pub returns-then-i-ps : goal.returns-then-i-ps
returns-then-i-ps c = pairs_whole _ _ _ _ c.loop-i.invariant c.if-i-ps.true

pub returns-else-i-ps : goal.returns-else-i-ps
returns-else-i-ps c = pairs_odd _ _ _ _ c.loop-i.invariant c.loop-i-test.false c.if-i-ps.false
