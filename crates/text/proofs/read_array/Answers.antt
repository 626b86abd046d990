-- `text::read_array`: a fault among the numbers, or none.
use Rattle.std.proofs.Common.{rules}
use Rattle.text.specs.Text.{array_after}
use Rattle.text.proofs.read_array.Goals as goal

pub returns-in_err-after : goal.returns-in_err-after
unfolding array_after
returns-in_err-after g c = search rules

pub returns : goal.returns
unfolding array_after
returns g c = search rules
