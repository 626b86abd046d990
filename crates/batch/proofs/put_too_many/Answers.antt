-- `batch::put_too_many`: the text, and there is room for it.
use Rattle.text.specs.Ascii.{ascii}
use Rattle.batch.specs.Batch.{too_many_text}
use Rattle.batch.proofs.Laws.{too_many_whole}
use Rattle.batch.proofs.put_too_many.Goals as goal

pub returns : goal.returns
unfolding too_many_text ascii
returns c = too_many_whole _ _ _ c.requires c.put.ensures
