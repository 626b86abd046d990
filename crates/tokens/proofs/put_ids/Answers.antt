use Rattle.tokens.proofs.Turns.{take_some, take_turn, take_done}
use Rattle.tokens.proofs.put_ids.Goals as goal

pub unwrap-line-requires : goal.unwrap-line-requires
unwrap-line-requires c = take_some _ _ _ _ _ _ c.loop-at.invariant _ c.read_line.ensures

pub loop-at-preserved : goal.loop-at-preserved
loop-at-preserved c = take_turn _ _ _ _ _ _ c.loop-at.invariant _ (rw c.unwrap-line.ensures at c.read_line.ensures)

pub returns : goal.returns
returns c = take_done _ _ _ _ _ _ c.loop-at.invariant c.loop-at-test.false
