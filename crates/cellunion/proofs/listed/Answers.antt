-- `cellunion::listed`: a valid id behind the last leaf, or not.
use Rattle.std.proofs.Common.{◌∙◌}
use Rattle.cellunion.proofs.Lists.{listed_pos, listed_yes, listed_no}
use Rattle.cellunion.proofs.listed.Goals as goal

pub range_min-requires : goal.range_min-requires
range_min-requires c = listed_pos _ _ c.is_valid.ensures c.if-is_valid.true

pub returns-then-is_valid : goal.returns-then-is_valid
returns-then-is_valid c = listed_yes _ _ _ _ c.is_valid.ensures c.if-is_valid.true c.range_min.ensures

pub returns-else-is_valid : goal.returns-else-is_valid
returns-else-is_valid c = c.if-is_valid.false ∙ listed_no _ _ _ c.is_valid.ensures c.if-is_valid.false
