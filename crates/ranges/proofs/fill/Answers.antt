use native.Mathlib.Omega.{arith}
use Rattle.ranges.proofs.Tilings.{fill_start, fill_asks, fill_turn, fill_done}
use Rattle.ranges.proofs.fill.Goals as goal

pub loop-i-init : goal.loop-i-init
loop-i-init c = fill_start _ _ c.requires

pub overflow_add-i : goal.overflow_add-i
overflow_add-i c = omega (arith, c.loop-i.invariant.within)

pub overflow_add-last : goal.overflow_add-last
overflow_add-last c = omega (arith, c.loop-i.invariant.within)

pub overflow_add-last-in-loop-i : goal.overflow_add-last-in-loop-i
overflow_add-last-in-loop-i c = omega (arith, (fill_asks _ _ _ _ _ c.loop-i.invariant c.loop-i-test.true).0)

pub tile-at-requires : goal.tile-at-requires
tile-at-requires c = let A = fill_asks _ _ _ _ _ c.loop-i.invariant c.loop-i-test.true in (A.1, A.2, A.3)

pub overflow_add-i-in-loop-i : goal.overflow_add-i-in-loop-i
overflow_add-i-in-loop-i c = omega (arith, c.loop-i-test.true)

pub loop-i-smaller : goal.loop-i-smaller
loop-i-smaller c = omega (arith, c.loop-i-test.true)

pub loop-i-preserved : goal.loop-i-preserved
loop-i-preserved c = fill_turn _ _ _ _ _ _ _ c.loop-i.invariant c.loop-i-test.true c.tile-at.ensures

pub shape_of-out : goal.shape_of-out
shape_of-out c = c.loop-i.invariant.len

pub returns : goal.returns
returns c = fill_done _ _ _ _ _ c.loop-i.invariant c.loop-i-test.false
