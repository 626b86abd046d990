-- `text::read_number`: by the base.
use Rattle.std.proofs.Common.{rules}
use Rattle.text.specs.Text.{number_after}
use Rattle.text.proofs.read_number.Goals as goal

pub returns-in-Ten-clause-value : goal.returns-in-Ten-clause-value
unfolding number_after
returns-in-Ten-clause-value c = search rules

pub returns-in-Sixteen-clause-value : goal.returns-in-Sixteen-clause-value
unfolding number_after
returns-in-Sixteen-clause-value c = search rules
