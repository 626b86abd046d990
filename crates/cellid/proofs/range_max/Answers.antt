use Rattle.std.proofs.Common.{arith}
use Rattle.cellid.specs.CellId.{last_leaf}
use Rattle.cellid.proofs.Laws.{low_pos, low_room}
use Rattle.cellid.proofs.range_max.Goals as goal

pub overflow_sub-result : goal.overflow_sub-result
overflow_sub-result c = omega (arith, c.lsb.ensures, low_pos c.args.id)

pub overflow_add-result : goal.overflow_add-result
overflow_add-result c = omega (arith, c.lsb.ensures, low_room c.args.id c.requires c.ranges.id.fits)

pub returns : goal.returns
unfolding last_leaf
returns c = omega (arith, c.lsb.ensures)
