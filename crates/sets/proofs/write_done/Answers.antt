-- `sets::write_done`: nothing, or the stretch's cells.
use Rattle.sets.proofs.Turns.{done_yes, done_no}
use Rattle.sets.proofs.write_done.Goals as goal

pub returns-then-want : goal.returns-then-want
returns-then-want c = done_yes _ _ _ _ _ c.if-want.true

pub returns-else-want : goal.returns-else-want
returns-else-want c = done_no _ _ _ _ _ _ _ c.if-want.false c.tile.ensures
