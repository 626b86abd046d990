use mathlib.Core.Path.{ap, ◌∙◌}
use native.Mathlib.Omega.{arith}
use lib.ListN.{length}
use lib.Seq.{length-sets}
use Rattle.ranges.proofs.Writes.{join_start, join_pos, join_turn, join_done}
use Rattle.ranges.proofs.join.Goals as goal

pub loop-id-init : goal.loop-id-init
loop-id-init c = join_start _ _ c.requires

pub range_min-next-requires : goal.range_min-next-requires
range_min-next-requires c = join_pos _ _ _ _ _ _ _ c.loop-id.invariant c.loop-id-test.true

pub close-at-requires : goal.close-at-requires
close-at-requires c = let G = c.loop-id.invariant in (G.world, omega (arith, G.low))

pub open-first-requires : goal.open-first-requires
open-first-requires c = c.loop-id.invariant.world

pub range_max-last-requires : goal.range_max-last-requires
range_max-last-requires c = join_pos _ _ _ _ _ _ _ c.loop-id.invariant c.loop-id-test.true

pub loop-id-preserved : goal.loop-id-preserved
loop-id-preserved c = join_turn _ _ _ _ _ _ _ _ _ _ _ _ c.loop-id.invariant c.loop-id-test.true c.range_min-next.ensures c.close-at.ensures.0 c.close-at.ensures.1 c.open-first.ensures c.range_max-last.ensures

pub hold-requires : goal.hold-requires
hold-requires c = let G = c.loop-id.invariant in omega (arith, G.low, G.within)

pub shape_of-out : goal.shape_of-out
shape_of-out c = ap length c.hold.ensures.1 ∙ simp length-sets c.loop-id.invariant.len

pub returns : goal.returns
returns c = join_done _ _ _ _ _ _ _ _ _ c.loop-id.invariant c.loop-id-test.false c.hold.ensures
