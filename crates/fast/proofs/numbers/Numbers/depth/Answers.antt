-- `fast::Numbers::depth` meets its contract. Assumes nothing.
use mathlib.Core.Path.{◌≡◌, sym, ◌∙◌}
use Prim.Native.Nat.{◌+◌}
use native.Mathlib.Omega.{arith}
use Rattle.fast.specs.Fast.{pair_depth}
use Rattle.fast.proofs.Levels.{pair_small, depth_some, depth_none}
use Rattle.fast.proofs.numbers.Numbers.depth.Goals.{After-adjust_level}
use Rattle.fast.proofs.numbers.Numbers.depth.Goals as goal

is_depth : (c : After-adjust_level) →
    let s = c.args in c.adjust_level.result + 1 ≡ pair_depth s.self.coverer.min_level s.self.coverer.level_mod s.a s.b
is_depth c = depth_some _ _ _ _ _ _ (sym c.common_ancestor_level.ensures ∙ c.in-Some.is) c.adjust_level.ensures

pub common_ancestor_level-requires : goal.common_ancestor_level-requires
common_ancestor_level-requires c = record {
  cell = c.requires.0;
  cell_2 = c.requires.1;
}

pub overflow_add-result : goal.overflow_add-result
overflow_add-result c =
    let s = c.args in
    omega (arith, is_depth (goal.at.overflow_add-result c).After-adjust_level, pair_small s.self.coverer.min_level s.self.coverer.level_mod s.a s.b)

pub returns-in-Some : goal.returns-in-Some
returns-in-Some c = is_depth (goal.at.returns-in-Some c).After-adjust_level

pub returns-in-None : goal.returns-in-None
returns-in-None c = depth_none _ _ _ _ (sym c.common_ancestor_level.ensures ∙ c.in-None.is)
