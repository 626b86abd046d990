use Rattle.std.proofs.Common.{le-leb}
use borrow.Author.Tests.{lt-leb}
use Rattle.cellid.specs.CellId.{meets}
use Rattle.cellid.proofs.intersects.Goals as goal

pub returns-then-range_min-range_max : goal.returns-then-range_min-range_max
unfolding meets
returns-then-range_min-range_max c = rw (← c.range_min.ensures, ← c.range_max.ensures, le-leb _ _ c.if-range_min-range_max.true, ← c.range_min-then-range_min-range_max.ensures, ← c.range_max-then-range_min-range_max.ensures)

pub returns-else-range_min-range_max : goal.returns-else-range_min-range_max
unfolding meets
returns-else-range_min-range_max c = rw (← c.range_min.ensures, ← c.range_max.ensures, lt-leb _ _ c.if-range_min-range_max.false)
