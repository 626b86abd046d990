use mathlib.Core.Path.{sym, ◌∙◌}
use Rattle.tokens.proofs.Digits.{digits_go, digits_none}
use Rattle.tokens.proofs.put_digits.Goals as goal

pub loop-left-preserved : goal.loop-left-preserved
loop-left-preserved c = c.loop-left.invariant ∙ digits_go _ _ _ c.loop-left.left _ c.loop-left-test.true c.glyph.ensures

pub returns : goal.returns
returns c = sym (c.loop-left.invariant ∙ digits_none _ _ _ c.loop-left.left c.loop-left-test.false)
