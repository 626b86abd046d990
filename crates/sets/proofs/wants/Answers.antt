-- `sets::wants`: case by case.
use Rattle.sets.specs.Sets.{wants}
use Rattle.sets.proofs.wants.Goals as goal

pub returns-then-x : goal.returns-then-x
unfolding wants
returns-then-x c = rw (c.in-Union.is, c.if-x.true)

pub returns-else-x : goal.returns-else-x
unfolding wants
returns-else-x c = rw (c.in-Union.is, c.if-x.false)

pub returns-then-x-2 : goal.returns-then-x-2
unfolding wants
returns-then-x-2 c = rw (c.in-Common.is, c.if-x-2.true)

pub returns-else-x-2 : goal.returns-else-x-2
unfolding wants
returns-else-x-2 c = rw (c.in-Common.is, c.if-x-2.false)

pub returns-then-x-3 : goal.returns-then-x-3
unfolding wants
returns-then-x-3 c = rw (c.in-Difference.is, c.if-x-3.true)

pub returns-else-x-3 : goal.returns-else-x-3
unfolding wants
returns-else-x-3 c = rw (c.in-Difference.is, c.if-x-3.false)
