-- `cellunion::copy`: word after word.
use Rattle.cellunion.proofs.Memory.{lay_turn, copy_done}
use Rattle.cellunion.proofs.copy.Goals as goal

pub loop-i-preserved : goal.loop-i-preserved
loop-i-preserved c = lay_turn _ _ _ _ _ c.loop-i.invariant c.loop-i-test.true

pub returns : goal.returns
returns c = copy_done _ _ _ _ _ c.loop-i.invariant c.loop-i-test.false
