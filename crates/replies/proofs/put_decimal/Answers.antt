-- `replies::put_decimal`: the digits that `io` gives are the number with no zeros in front.
use mathlib.Core.Path.{◌∙◌}
use Rattle.replies.proofs.Writing.{decimal_text_lem}
use Rattle.replies.proofs.put_decimal.Goals as goal

pub returns : goal.returns
returns c = rw (c.decimal-k.ensures.digits ∙ decimal_text_lem _ _ c.decimal-k.ensures.len c.ranges.n.fits) at c.put.ensures
