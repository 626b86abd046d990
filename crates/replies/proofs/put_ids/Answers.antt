use native.Mathlib.Omega.{arith}
use lib.ListN.{drop_of_length-le}
use Rattle.replies.specs.Write.{ids_text}
use Rattle.replies.proofs.Writing.{wrote_none, wrote_then, ids_go}
use Rattle.replies.proofs.put_ids.Goals as goal

pub loop-id-preserved : goal.loop-id-preserved
loop-id-preserved c = λ r l w. c.loop-id.invariant r l (rw (ids_go _ c.args.ids.now c.loop-id.id-index (omega arith)) (wrote_then c.put_id-n.ensures w))

pub returns : goal.returns
unfolding ids_text
returns c = c.loop-id.invariant _ _ (rw (drop_of_length-le _ c.loop-id-test.false) (wrote_none _ _))
