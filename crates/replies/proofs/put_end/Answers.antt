-- `replies::put_end`: one part after another.
use Rattle.text.specs.Ascii.{ascii}
use Rattle.replies.specs.Write.{end_text}
use Rattle.replies.proofs.Writing.{wrote_then}
use Rattle.replies.proofs.put_end.Goals as goal

pub returns : goal.returns
unfolding end_text ascii
returns c = wrote_then c.put_number-a.ensures c.put.ensures
