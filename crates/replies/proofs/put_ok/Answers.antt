-- `replies::put_ok`: one part after another.
use Rattle.text.specs.Ascii.{ascii}
use Rattle.replies.specs.Write.{ok_text}
use Rattle.replies.proofs.Writing.{wrote_then}
use Rattle.replies.proofs.put_ok.Goals as goal

pub returns : goal.returns
unfolding ok_text ascii
returns c = wrote_then c.put_number-a.ensures (wrote_then c.put_totals-b.ensures (wrote_then c.put-c.ensures c.put_counted.ensures))
