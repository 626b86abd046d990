use Rattle.std.proofs.Common.{le_trans, le_of_lt, mul-le-mul, div-le_self, arith, lit<}
use Rattle.root.proofs.Newton.{newton_above, newton_below, sq_pos}
use Rattle.root.proofs.half_root.Goals as goal

pub loop-r-init : goal.loop-r-init
loop-r-init c = (newton_above c.args.m 0x600_0000 (lit< tt), omega arith)

pub overflow_mul-r : goal.overflow_mul-r
overflow_mul-r c = omega (arith, mul-le-mul c.loop-r.invariant.1 c.loop-r.invariant.1)

pub nonzero_div-r-in-loop-r : goal.nonzero_div-r-in-loop-r
nonzero_div-r-in-loop-r c = sq_pos _ _ c.loop-r-test.true

pub overflow_add-r-in-loop-r : goal.overflow_add-r-in-loop-r
overflow_add-r-in-loop-r c = omega (arith, div-le_self c.args.m c.loop-r.r)

pub loop-r-smaller : goal.loop-r-smaller
loop-r-smaller c = newton_below _ _ c.loop-r-test.true

pub loop-r-preserved : goal.loop-r-preserved
loop-r-preserved c =
    let m = c.args.m in
    let r = c.loop-r.r in
    (newton_above m r (sq_pos m r c.loop-r-test.true), le_trans (le_of_lt (newton_below m r c.loop-r-test.true)) c.loop-r.invariant.1)

pub returns : goal.returns
returns c = (c.loop-r-test.false, c.loop-r.invariant.0)
