-- `cellunion::near`: the id begins before the parent of the last kept ends, or nothing is kept.
use Rattle.std.proofs.Common.{◌∙◌, eq-eqb, arith}
use Rattle.cellunion.proofs.Settled.{above_pos, near_yes, near_none}
use Rattle.cellunion.proofs.near.Goals as goal

pub range_max-requires : goal.range_max-requires
range_max-requires c = above_pos _ _ _ (omega (arith, c.if-k-eq0.false)) c.requires.1 c.above.ensures

pub returns-then-k-eq0 : goal.returns-then-k-eq0
returns-then-k-eq0 c = eq-eqb _ _ c.if-k-eq0.true ∙ near_none _ _ _ (omega (arith, c.if-k-eq0.true))

pub returns-else-k-eq0 : goal.returns-else-k-eq0
returns-else-k-eq0 c = near_yes _ _ _ _ _ _ (omega (arith, c.if-k-eq0.false)) c.above.ensures c.range_min.ensures c.range_max.ensures
