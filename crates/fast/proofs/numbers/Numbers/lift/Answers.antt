use mathlib.Core.Path.{◌≡◌, ap, ◌∙◌}
use mathlib.Core.List.{List, ◌++◌}
use lib.ListN.{drop}
use Prim.Native.Nat.{ℕ, min}
use native.Mathlib.Omega.{arith}
use Rattle.cellid.specs.CellId.{level_of, parent_at}
use Rattle.fast.specs.Fast.{adjusted, lifted}
use Rattle.fast.proofs.Levels.{adjusted_le}
use Rattle.fast.proofs.Laws.{lifted_all}
use Rattle.fast.proofs.Turns.{lift_none, lift_turn, lift_done}
use Rattle.fast.proofs.numbers.Numbers.lift.Goals as goal

up_is : (low top step id level least up r : ℕ) → level ≡ level_of id → least ≡ min level top → up ≡ adjusted low step least → r ≡ parent_at id up → r ≡ lifted low top step id
unfolding lifted
up_is low top step id level least up r e f g h = h ∙ ap (parent_at id) (g ∙ ap (adjusted low step) (f ∙ ap (λ (l : ℕ). min l top) e))

pub returns-then-takes_all_levels : goal.returns-then-takes_all_levels
returns-then-takes_all_levels c =
    let k = c.args.self.coverer in
    lift_none (lifted k.min_level k.max_level k.level_mod) c.args.n c.args.mem.now (lifted_all k.min_level k.max_level k.level_mod _ _ c.args.self.fit.some c.requires.1 c.takes_all_levels.ensures c.if-takes_all_levels.true)

pub parent-requires : goal.parent-requires
parent-requires c =
    omega (arith, c.args.self.fit.deep, c.adjust_level-up.ensures, adjusted_le c.args.self.coverer.min_level c.args.self.coverer.level_mod c.min.result, c.min.ensures)

pub loop-id-preserved : goal.loop-id-preserved
loop-id-preserved c =
    lift_turn _ _ _ _ _ c.loop-id-test.true c.loop-id.invariant (up_is _ _ _ _ _ _ _ _ c.level.ensures c.min.ensures c.adjust_level-up.ensures c.parent.ensures)

pub returns : goal.returns
returns c = ap (λ (l : List ℕ). l ++ drop c.args.n c.args.mem.now) (lift_done _ _ _ _ c.loop-id-test.false c.loop-id.invariant)
