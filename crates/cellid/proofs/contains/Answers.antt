use Rattle.std.proofs.Common.{le-leb}
use borrow.Author.Tests.{lt-leb}
use Rattle.cellid.specs.CellId.{holds}
use Rattle.cellid.proofs.contains.Goals as goal

pub returns-then-range_min-b : goal.returns-then-range_min-b
unfolding holds
returns-then-range_min-b c = rw (← c.range_min.ensures, ← c.range_max.ensures, le-leb _ _ c.if-range_min-b.true)

pub returns-else-range_min-b : goal.returns-else-range_min-b
unfolding holds
returns-else-range_min-b c = rw (← c.range_min.ensures, lt-leb _ _ c.if-range_min-b.false)
