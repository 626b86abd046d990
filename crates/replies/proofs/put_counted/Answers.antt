-- `replies::put_counted`: one part after another.
use Rattle.replies.specs.Write.{counted_text}
use Rattle.replies.proofs.Writing.{wrote_then}
use Rattle.replies.proofs.put_counted.Goals as goal

pub returns : goal.returns
unfolding counted_text
returns c = wrote_then c.put_decimal-a.ensures (wrote_then c.put_ids-b.ensures c.put.ensures)
