-- `ranges::hold`: no pair yet, or its two words.
use Rattle.ranges.proofs.Writes.{hold_none, hold_two}
use Rattle.ranges.proofs.hold.Goals as goal

pub returns-then-last-eq0 : goal.returns-then-last-eq0
returns-then-last-eq0 c = hold_none _ _ _ _ c.if-last-eq0.true

pub returns : goal.returns
returns c = hold_two _ _ _ _ _ _ c.if-last-eq0.false c.put.ensures c.put-2.ensures
