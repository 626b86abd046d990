-- `batch::put_summary`: one part after another, and there is room for all.
use Rattle.text.specs.Ascii.{ascii}
use Rattle.replies.proofs.Writing.{wrote_then}
use Rattle.batch.specs.Batch.{summary_text}
use Rattle.batch.proofs.Laws.{summary_whole}
use Rattle.batch.proofs.put_summary.Goals as goal

pub returns : goal.returns
unfolding summary_text ascii
returns c =
    summary_whole _ _ _ c.requires _ _ _ _
    (wrote_then c.put_number-a.ensures (wrote_then c.put_number-b.ensures (wrote_then c.put_number-c.ensures (wrote_then c.put_number-d.ensures c.put.ensures))))
