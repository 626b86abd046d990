use Rattle.std.proofs.Common.{refl, arith}
use Rattle.cellid.proofs.Laws.{level_le}
use Rattle.denorm.proofs.Writes.{write_asks, write_turn, write_done}
use Rattle.denorm.proofs.write.Goals as goal

pub loop-id-init : goal.loop-id-init
loop-id-init c = record { asks = c.requires.0; within = omega arith; len = refl; enough = c.requires.1; sum = omega arith; same = refl }

pub goal_level-to-requires : goal.goal_level-to-requires
goal_level-to-requires c = (rw c.level.ensures (level_le _), c.requires.0.1, c.requires.0.2)

pub spread-at-requires : goal.spread-at-requires
spread-at-requires c = write_asks _ _ _ _ _ _ _ _ _ c.loop-id.invariant c.loop-id-test.true c.level.ensures c.goal_level-to.ensures

pub loop-id-preserved : goal.loop-id-preserved
loop-id-preserved c =
    write_turn _ _ _ _ _ _ _ _ _ _ _ c.loop-id.invariant c.loop-id-test.true c.level.ensures c.goal_level-to.ensures
    c.spread-at.ensures.0 c.spread-at.ensures.1

pub returns : goal.returns
returns c = write_done _ _ _ _ _ _ _ c.loop-id.invariant c.loop-id-test.false
