-- `ranges::close`: joined and nothing is written, or the pair is.
use Rattle.ranges.proofs.Writes.{close_yes, close_no}
use Rattle.ranges.proofs.close.Goals as goal

pub returns-then-joins : goal.returns-then-joins
returns-then-joins c = close_yes _ _ _ _ _ _ c.joins.ensures c.if-joins.true

pub returns : goal.returns
returns c = close_no _ _ _ _ _ _ _ _ c.joins.ensures c.if-joins.false c.hold.ensures
