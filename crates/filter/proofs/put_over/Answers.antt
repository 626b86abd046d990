-- `filter::put_over`: a number with its words, then what is counted.
use Rattle.text.specs.Ascii.{ascii}
use Rattle.replies.proofs.Writing.{wrote_then}
use Rattle.filter.specs.Filter.{over_text}
use Rattle.filter.proofs.put_over.Goals as goal

pub returns : goal.returns
unfolding over_text ascii
returns c = wrote_then c.put_number-n.ensures c.put.ensures
