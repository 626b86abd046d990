use mathlib.Core.Path.{◌≡◌, ap, ◌∙◌}
use Prim.Native.Nat.{ℕ, ◌≤◌}
use native.Mathlib.Omega.{arith}
use Rattle.cellid.specs.CellId.{level_of, parent_at}
use Rattle.cellid.proofs.Laws.{level_le}
use Rattle.fast.specs.Fast.{adjusted}
use Rattle.fast.proofs.Levels.{adjusted_le}
use Rattle.fast.proofs.StartLaws.{raised}
use Rattle.fast.proofs.StartTurns.{adjusting_start, adjusting_asks, adjusting_turn, adjusting_done}
use Rattle.fast.proofs.numbers.Numbers.adjust_cell_levels.Goals as goal

to_small : (low step id level to : ℕ) → level ≡ level_of id → to ≡ adjusted low step level → to ≤ 30
to_small low step id level to e f = omega (arith, f, adjusted_le low step level, e, level_le id)

up_is : (low step id level to up : ℕ) → level ≡ level_of id → to ≡ adjusted low step level → up ≡ parent_at id to → up ≡ raised low step id
up_is low step id level to up e f g = g ∙ ap (parent_at id) (f ∙ ap (adjusted low step) e)

pub loop-i-init : goal.loop-i-init
loop-i-init c = adjusting_start _ _ _ _ c.requires.0 c.requires.1

pub parent-up-requires : goal.parent-up-requires
parent-up-requires c = to_small _ _ _ _ _ c.level.ensures c.adjust_level.ensures

pub keep_start-kept-requires : goal.keep_start-kept-requires
keep_start-kept-requires c =
    adjusting_asks _ _ _ _ _ _ _ _ c.loop-i.invariant c.loop-i-test.true
    (up_is _ _ _ _ _ _ c.level.ensures c.adjust_level.ensures c.parent-up.ensures)

pub loop-i-preserved : goal.loop-i-preserved
loop-i-preserved c =
    adjusting_turn _ _ _ _ _ _ _ _ c.loop-i.invariant c.loop-i-test.true
    (up_is _ _ _ _ _ _ c.level.ensures c.adjust_level.ensures c.parent-up.ensures) _ _ c.keep_start-kept.auto.mem c.keep_start-kept.ensures

pub clear-requires : goal.clear-requires
clear-requires c = let A = c.loop-i.invariant in omega (arith, A.few, A.within, A.room, A.len)

pub shape_of-mem : goal.shape_of-mem
shape_of-mem c = c.clear.auto.mem ∙ c.loop-i.invariant.len

pub returns : goal.returns
returns c = adjusting_done _ _ _ _ _ _ _ _ c.loop-i.invariant c.loop-i-test.false c.clear.ensures
