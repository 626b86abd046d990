use mathlib.Core.Path.{ap, ◌∙◌}
use native.Mathlib.Omega.{arith}
use lib.ListN.{length}
use lib.Seq.{length-sets}
use Rattle.cellunion.proofs.Lists.{is_list_lem}
use Rattle.sets.proofs.Turns.{sweep_start, sweep_on, sweep_turn, sweep_done}
use Rattle.sets.proofs.sweep.Goals as goal

pub cursor_at-first-requires : goal.cursor_at-first-requires
cursor_at-first-requires c = ((is_list_lem _).0 c.requires.0).0

pub cursor_at-second-requires : goal.cursor_at-second-requires
cursor_at-second-requires c = ((is_list_lem _).0 c.requires.1).0

pub loop-p-init : goal.loop-p-init
loop-p-init c = let P = c.requires in sweep_start _ _ _ _ _ _ P.0 P.1 c.cursor_at-first.ensures c.cursor_at-second.ensures

pub write_done-at-requires : goal.write_done-at-requires
write_done-at-requires c = let G = c.loop-p.invariant in (G.up, G.world, G.low)

pub move_to-first-requires : goal.move_to-first-requires
move_to-first-requires c = let G = c.loop-p.invariant.first in (G.ahead.cells, G.within)

pub move_to-second-requires : goal.move_to-second-requires
move_to-second-requires c = let G = c.loop-p.invariant.second in (G.ahead.cells, G.within)

pub loop-p-smaller : goal.loop-p-smaller
loop-p-smaller c = let G = c.loop-p.invariant in
    let o = sweep_on _ _ c.loop-p.first c.loop-p.second _ _ G.first G.second c.loop-p-test.true c.min-q.ensures in
    omega (arith, o.0, o.1)

pub loop-p-preserved : goal.loop-p-preserved
loop-p-preserved c = sweep_turn _ _ _ _ _ c.loop-p.first c.loop-p.second _ _ _ _ _ _ _ _ _ _ c.loop-p.invariant c.loop-p-test.true c.wants-want.ensures c.min-q.ensures c.write_done-at.ensures c.open_from-s.ensures c.move_to-first.ensures c.move_to-second.ensures

pub tile-requires : goal.tile-requires
tile-requires c = let G = c.loop-p.invariant in (G.up, G.world, omega (arith, G.up, G.world, G.low))

pub shape_of-out : goal.shape_of-out
shape_of-out c = ap length c.tile.ensures.1 ∙ simp length-sets c.loop-p.invariant.len

pub returns : goal.returns
returns c = sweep_done _ _ _ _ _ c.loop-p.first c.loop-p.second _ _ _ _ _ c.loop-p.invariant c.loop-p-test.false c.tile.ensures
