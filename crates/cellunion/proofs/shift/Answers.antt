use Rattle.std.proofs.Common.{refl, ◌∙◌}
use Rattle.cellunion.proofs.Memory.{shifted}
use Rattle.cellunion.proofs.shift.Goals as goal

pub returns : goal.returns
returns c = (refl, c.copy_within.ensures.after ∙ shifted _ _ _ _ c.requires.1 c.requires.2)
