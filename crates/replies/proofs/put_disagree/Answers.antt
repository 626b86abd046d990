-- `replies::put_disagree`: the text.
use Rattle.text.specs.Ascii.{ascii}
use Rattle.replies.specs.Write.{disagree_text}
use Rattle.replies.proofs.put_disagree.Goals as goal

pub returns : goal.returns
unfolding disagree_text ascii
returns c = c.put.ensures
