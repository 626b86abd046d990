-- `cellunion::above`: the ancestor one level up, or of level 0.
use mathlib.Core.Path.{◌≡◌, ap, ◌∙◌}
use Prim.Native.Nat.{ℕ, ◌-◌}
use native.Mathlib.Omega.{arith}
use Rattle.cellid.specs.CellId.{level_of, parent_at}
use Rattle.cellid.proofs.Laws.{level_le}
use Rattle.cellunion.specs.CellUnion.{up_one}
use Rattle.cellunion.proofs.above.Goals as goal

up_at : (c level at r : ℕ) → level ≡ level_of c → at ≡ level - 1 → r ≡ parent_at c at → r ≡ up_one c
up_at c level at r e f g = g ∙ ap (parent_at c) (f ∙ ap (λ (l : ℕ). l - 1) e)

pub parent-requires : goal.parent-requires
parent-requires c = omega (arith, c.level-level.ensures, level_le c.args.c)

pub returns-then-level-gt0 : goal.returns-then-level-gt0
returns-then-level-gt0 c = up_at _ _ _ _ c.level-level.ensures (omega arith) c.parent.ensures

pub returns-else-level-gt0 : goal.returns-else-level-gt0
returns-else-level-gt0 c = up_at _ c.level-level.result 0 _ c.level-level.ensures (omega (arith, c.if-level-gt0.false)) c.parent-else-level-gt0.ensures
