-- `text::read_choice`: no field, none of the words, or one of them.
use Rattle.std.proofs.Common.{rules}
use Rattle.text.specs.Text.{choice_after}
use Rattle.text.proofs.read_choice.Goals as goal

pub returns-in_err-field : goal.returns-in_err-field
unfolding choice_after
returns-in_err-field g c = search rules

pub returns-in_err-value : goal.returns-in_err-value
unfolding choice_after
returns-in_err-value g c = search rules

pub returns : goal.returns
unfolding choice_after
returns g c = search rules
