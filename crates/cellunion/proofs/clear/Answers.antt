use Rattle.cellunion.proofs.Memory.{cleared}
use Rattle.cellunion.proofs.clear.Goals as goal

pub returns : goal.returns
returns c = cleared _ _ _ _ c.requires.0 c.requires.1 (c.fill.ensures.after (λ y e. e))
