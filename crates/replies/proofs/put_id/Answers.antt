-- `replies::put_id`: a space, then the digits.
use Rattle.replies.specs.Write.{id_text}
use Rattle.replies.proofs.Writing.{wrote_then}
use Rattle.replies.proofs.put_id.Goals as goal

pub returns : goal.returns
unfolding id_text
returns c = wrote_then c.put-n.ensures c.put_name.ensures
