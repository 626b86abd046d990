-- `replies::put_list`: one part after another.
use Rattle.text.specs.Ascii.{ascii}
use Rattle.replies.specs.Write.{list_text}
use Rattle.replies.proofs.Writing.{wrote_then}
use Rattle.replies.proofs.put_list.Goals as goal

pub returns : goal.returns
unfolding list_text ascii
returns c = wrote_then c.put-a.ensures c.put_counted.ensures
