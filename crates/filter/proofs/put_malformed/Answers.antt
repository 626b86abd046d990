-- `filter::put_malformed`: a number with its words, then the line's end.
use Rattle.text.specs.Ascii.{ascii}
use Rattle.replies.proofs.Writing.{wrote_then}
use Rattle.filter.specs.Filter.{malformed_text}
use Rattle.filter.proofs.put_malformed.Goals as goal

pub returns : goal.returns
unfolding malformed_text ascii
returns c = wrote_then c.put_number-n.ensures c.put.ensures
