-- `sets::lo`: the lowest bit, once.
use mathlib.Core.Path.{ap}
use Prim.Native.Nat.{ℕ, ◌-◌, ◌/◌}
use native.Mathlib.Omega.{arith}
use Rattle.cellid.proofs.Laws.{cell_pos, low_le}
use Rattle.cellunion.specs.CellUnion.{lo}
use Rattle.sets.proofs.lo.Goals as goal

pub lsb-requires : goal.lsb-requires
lsb-requires c = cell_pos _ _ _ c.requires.2

pub overflow_sub-result : goal.overflow_sub-result
overflow_sub-result c = omega (arith, c.lsb.ensures, low_le c.args.id (cell_pos _ _ _ c.requires.2) c.ranges.id.fits)

pub returns : goal.returns
unfolding lo
returns c = ap (λ (x : ℕ). (c.args.id - x) / 2) c.lsb.ensures
