-- `text::read_at`: the digits are the field, or the field is read by itself; or there is none.
use Rattle.std.proofs.Common.{sym, ◌∙◌}
use Rattle.text.proofs.Laws.{at_short}
use Rattle.text.proofs.read_at.Goals as goal

pub returns-then-digits-limit-clause-value : goal.returns-then-digits-limit-clause-value
returns-then-digits-limit-clause-value c = at_short _ _ _ _ _ _ _ _ _ c.read_digits-digits.ensures.0 c.requires.2 c.requires.3 c.past-start.ensures.0 c.if-fewest-end.true (sym c.past.ensures.0 ∙ c.if-past-end.true) c.if-digits-limit.true
