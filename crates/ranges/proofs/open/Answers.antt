-- `ranges::open`: the pair goes on, or begins.
use mathlib.Core.Path.{sym}
use Rattle.ranges.proofs.Writes.{closed_yes, closed_no}
use Rattle.ranges.proofs.open.Goals as goal

pub returns-then-joins : goal.returns-then-joins
returns-then-joins c = sym (closed_yes _ _ _ _ c.joins.ensures c.if-joins.true).1

pub returns-else-joins : goal.returns-else-joins
returns-else-joins c = sym (closed_no _ _ _ _ c.joins.ensures c.if-joins.false).1
