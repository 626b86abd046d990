-- `batch::put_done`: one part after another.
use Rattle.text.specs.Ascii.{ascii}
use Rattle.replies.proofs.Writing.{wrote_then}
use Rattle.batch.specs.Batch.{done_text}
use Rattle.batch.proofs.put_done.Goals as goal

pub returns : goal.returns
unfolding done_text ascii
returns c =
    wrote_then c.put_number-a.ensures (wrote_then c.put_number-b.ensures (wrote_then c.put_totals-c.ensures (wrote_then c.put-d.ensures c.put_counted.ensures)))
