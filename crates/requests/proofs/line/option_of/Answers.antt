-- `requests::line::option_of`: a key, and what stands behind its sign.
use Rattle.std.proofs.Common.{◌∙◌}
use Rattle.text.specs.Ascii.{ascii}
use Rattle.requests.proofs.Reading.{option_key}
use Rattle.requests.proofs.line.option_of.Goals as goal

pub returns : goal.returns
unfolding ascii
returns c = c.with_option.ensures ∙ option_key c.args.field.now c.args.o c.in_ok-sign.sign c.in_ok-key.key (rw c.find.ensures.value at c.in_ok-sign.ensures.value) (rw c.choice_of.ensures at c.in_ok-key.ensures.value)
