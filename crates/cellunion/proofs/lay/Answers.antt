-- `cellunion::lay`: there is no room, or the words are copied.
use Rattle.cellunion.proofs.Memory.{lay_done, lay_none}
use Rattle.cellunion.proofs.lay.Goals as goal

pub returns-then-out-n : goal.returns-then-out-n
returns-then-out-n c = lay_none _ _ c.if-out-n.true

pub returns : goal.returns
returns c = lay_done _ _ _ c.if-out-n.false c.copy.ensures
