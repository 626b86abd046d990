use Rattle.std.proofs.Common.{arith}
use Rattle.cellid.proofs.Laws.{level_le}
use Rattle.denorm.proofs.Writes.{turn_laws, count_turn, count_over, count_done}
use Rattle.denorm.proofs.fits.Goals as goal

pub loop-id-init : goal.loop-id-init
loop-id-init c = record { within = omega arith; same = omega arith }

pub goal_level-requires : goal.goal_level-requires
goal_level-requires c = (rw c.level-level.ensures (level_le _), c.requires.1, c.requires.2)

pub overflow_sub-cells : goal.overflow_sub-cells
overflow_sub-cells c = let T = turn_laws _ _ _ _ _ c.level-level.ensures c.goal_level.ensures in omega (arith, T.up)

pub overflow_mul-cells : goal.overflow_mul-cells
overflow_mul-cells c = let T = turn_laws _ _ _ _ _ c.level-level.ensures c.goal_level.ensures in omega (arith, T.top)

pub overflow_shl-cells : goal.overflow_shl-cells
overflow_shl-cells c = let T = turn_laws _ _ _ _ _ c.level-level.ensures c.goal_level.ensures in omega (arith, T.top)

pub returns-then-left-cells : goal.returns-then-left-cells
returns-then-left-cells c = count_over _ _ _ _ _ _ _ c.loop-id.invariant c.loop-id-test.true (turn_laws _ _ _ _ _ c.level-level.ensures c.goal_level.ensures).val c.if-left-cells.true

pub loop-id-preserved : goal.loop-id-preserved
loop-id-preserved c = count_turn _ _ _ _ _ _ _ c.loop-id.invariant c.loop-id-test.true (turn_laws _ _ _ _ _ c.level-level.ensures c.goal_level.ensures).val c.if-left-cells.false

pub returns : goal.returns
returns c = count_done _ _ _ _ _ _ c.loop-id.invariant c.loop-id-test.false
