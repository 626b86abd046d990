-- `replies::put_error`: one part after another.
use Rattle.text.specs.Ascii.{ascii}
use Rattle.replies.specs.Write.{error_text}
use Rattle.replies.proofs.Writing.{wrote_then}
use Rattle.replies.proofs.put_error.Goals as goal

pub returns : goal.returns
unfolding error_text ascii
returns c = wrote_then c.put_number-a.ensures (wrote_then c.put-b.ensures (wrote_then (rw c.word.ensures at c.put-c.ensures) c.put.ensures))
