-- `replies::put_number`: one part after another.
use Rattle.replies.proofs.Writing.{wrote_then}
use Rattle.replies.proofs.put_number.Goals as goal

pub returns : goal.returns
returns c = wrote_then c.put-next.ensures c.put_decimal.ensures
