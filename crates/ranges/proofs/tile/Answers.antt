use mathlib.Core.Path.{refl}
use native.Mathlib.Omega.{arith}
use Rattle.ranges.proofs.Tilings.{tile_fits, tile_turn}
use Rattle.cellid.proofs.Puts.{put_done}
use Rattle.ranges.proofs.Tiles.{tile_end, sized}
use Rattle.ranges.proofs.tile.Goals as goal

pub put-requires : goal.put-requires
put-requires c = tt

pub loop-from-init : goal.loop-from-init
loop-from-init c = let P = c.requires in record { to = P.0; world = P.1; low = P.2; len = refl; put = record { count = refl; same = refl } }

pub size-z-requires : goal.size-z-requires
size-z-requires c = (c.loop-from-test.true, c.loop-from.invariant.world)

pub overflow_mul-from : goal.overflow_mul-from
overflow_mul-from c = omega (arith, c.loop-from-test.true, c.loop-from.invariant.world)

pub overflow_add-from : goal.overflow_add-from
overflow_add-from c = omega (arith, tile_fits _ _ _ c.loop-from-test.true c.loop-from.invariant.world c.size-z.ensures, c.loop-from.invariant.world)

pub overflow_add-place : goal.overflow_add-place
overflow_add-place c = let G = c.loop-from.invariant in omega (arith, G.low, c.loop-from-test.true)

pub overflow_add-from-in-loop-from : goal.overflow_add-from-in-loop-from
overflow_add-from-in-loop-from c = let G = c.loop-from.invariant in omega (arith, tile_fits _ _ _ c.loop-from-test.true G.world c.size-z.ensures, G.world)

pub loop-from-smaller : goal.loop-from-smaller
loop-from-smaller c = let G = c.loop-from.invariant in
    let h = c.loop-from-test.true in
    omega (arith, h, tile_fits _ _ _ h G.world c.size-z.ensures, c.size-z.ensures, (sized _ _ h).some)

pub loop-from-preserved : goal.loop-from-preserved
loop-from-preserved c = tile_turn _ _ _ _ _ _ _ _ _ c.loop-from.invariant c.loop-from-test.true c.size-z.ensures c.put.ensures

pub shape_of-out : goal.shape_of-out
shape_of-out c = c.loop-from.invariant.len

pub returns : goal.returns
returns c = put_done _ _ _ _ _ _ c.loop-from.invariant.put (tile_end _ _ c.loop-from-test.false)
