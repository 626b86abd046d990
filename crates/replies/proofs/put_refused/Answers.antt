-- `replies::put_refused`: one part after another.
use Rattle.text.specs.Ascii.{ascii}
use Rattle.replies.specs.Write.{refused_text}
use Rattle.replies.proofs.Writing.{wrote_then}
use Rattle.replies.proofs.put_refused.Goals as goal

pub returns : goal.returns
unfolding refused_text ascii
returns c = wrote_then c.put_number-a.ensures c.put.ensures
