use Rattle.std.proofs.Common.{refl, ◌-◌, ◌*◌, arith, pow_mono}
use Rattle.cellid.proofs.Laws.{cell_pos, cell_lt, low_le}
use Rattle.denorm.proofs.Writes.{spread_begin, spread_word, spread_next, spread_back}
use Rattle.denorm.proofs.spread.Goals as goal

pub lsb-requires : goal.lsb-requires
lsb-requires c = cell_pos _ _ _ c.requires.0.2

pub overflow_sub-c : goal.overflow_sub-c
overflow_sub-c c =
    let C = c.requires.0.2 in
    omega (arith, c.lsb.ensures, low_le c.args.id (cell_pos _ _ _ C) c.ranges.id.fits)

pub overflow_add-c : goal.overflow_add-c
overflow_add-c c =
    omega (arith, cell_lt _ _ _ c.requires.0.2, c.lsb_for_level-bit.ensures, pow_mono {i = 2 * (30 - c.args.to)} {j = 60} (omega arith))

pub loop-place-init : goal.loop-place-init
loop-place-init c =
    spread_begin _ _ _ _ _ _ _ _ c.requires.2 c.level.ensures refl c.requires.3 c.requires.0 c.requires.1 c.lsb_for_level-bit.ensures c.lsb.ensures

pub overflow_add-c-in-loop-place : goal.overflow_add-c-in-loop-place
overflow_add-c-in-loop-place c = let r = spread_word _ _ _ _ _ _ _ _ _ c.loop-place.invariant (omega (arith, c.loop-place-test.true, c.loop-place.auto.part)) in omega (arith, r.0, r.1)

pub loop-place-preserved : goal.loop-place-preserved
loop-place-preserved c = spread_next _ _ _ _ _ _ _ c.loop-place.invariant (omega (arith, c.loop-place-test.true, c.loop-place.auto.part))

pub returns : goal.returns
returns c = spread_back _ _ _ _ _ c.lsb.result _ _ c.requires.2 c.level.ensures refl c.requires.3 _ _ _ c.loop-place.invariant (omega (arith, c.loop-place-test.false, c.loop-place.auto.part))
