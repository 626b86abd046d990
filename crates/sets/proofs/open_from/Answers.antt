-- `sets::open_from`: by whether the leaves are wanted.
use Rattle.sets.specs.Steps.{open_from}
use Rattle.sets.proofs.open_from.Goals as goal

pub returns-then-want : goal.returns-then-want
unfolding open_from
returns-then-want c = rw (open_from, c.if-want.true)

pub returns-else-want : goal.returns-else-want
unfolding open_from
returns-else-want c = rw (open_from, c.if-want.false)
