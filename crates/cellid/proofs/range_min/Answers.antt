use Rattle.std.proofs.Common.{arith}
use Rattle.cellid.specs.CellId.{first_leaf}
use Rattle.cellid.proofs.Laws.{low_pos, low_le}
use Rattle.cellid.proofs.range_min.Goals as goal

pub overflow_sub-result : goal.overflow_sub-result
overflow_sub-result c = omega (arith, c.lsb.ensures, low_pos c.args.id)

pub overflow_sub-result-2 : goal.overflow_sub-result-2
overflow_sub-result-2 c = omega (arith, c.lsb.ensures, low_le c.args.id c.requires c.ranges.id.fits)

pub returns : goal.returns
unfolding first_leaf
returns c = omega (arith, c.lsb.ensures)
