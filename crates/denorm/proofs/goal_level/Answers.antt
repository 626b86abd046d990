use Rattle.std.proofs.Common.{◌∙◌, arith}
use Rattle.denorm.proofs.Writes.{goal_fits, goal_is}
use Rattle.denorm.proofs.goal_level.Goals as goal

pub returns : goal.returns
returns c = c.min.ensures ∙ goal_is _ _ _ _ c.max-m.ensures
