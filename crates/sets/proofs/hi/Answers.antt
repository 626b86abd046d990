-- `sets::hi`: the lowest bit, once.
use mathlib.Core.Path.{ap}
use Prim.Native.Nat.{ℕ, ◌+◌, ◌/◌}
use native.Mathlib.Omega.{arith}
use Rattle.cellid.proofs.Laws.{cell_pos, cell_lt, low_small}
use Rattle.cellunion.specs.CellUnion.{hi}
use Rattle.sets.proofs.hi.Goals as goal

pub lsb-requires : goal.lsb-requires
lsb-requires c = cell_pos _ _ _ c.requires.2

pub overflow_add-result : goal.overflow_add-result
overflow_add-result c = omega (arith, c.lsb.ensures, cell_lt _ _ _ c.requires.2, low_small _ c.requires)

pub returns : goal.returns
unfolding hi
returns c = ap (λ (x : ℕ). (c.args.id + x) / 2) c.lsb.ensures
