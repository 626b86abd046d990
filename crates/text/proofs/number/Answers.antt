-- `text::number`: no digits, too few, too many, or a number.
use Rattle.std.proofs.Common.{rules}
use Rattle.text.specs.Text.{number_as}
use Rattle.text.proofs.number.Goals as goal

pub returns-then-is_empty-clause-value : goal.returns-then-is_empty-clause-value
unfolding number_as
returns-then-is_empty-clause-value c = search rules

pub returns-then-s-fewest-clause-value : goal.returns-then-s-fewest-clause-value
unfolding number_as
returns-then-s-fewest-clause-value c = search rules

pub returns-then-most-s-clause-value : goal.returns-then-most-s-clause-value
unfolding number_as
returns-then-most-s-clause-value c = search rules

pub returns-clause-value : goal.returns-clause-value
unfolding number_as
returns-clause-value c = search rules
