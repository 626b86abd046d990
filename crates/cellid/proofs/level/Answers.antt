use Rattle.std.proofs.Common.{arith}
use Rattle.cellid.specs.CellId.{level_of}
use Rattle.cellid.proofs.level.Goals as goal

pub returns-then-half-le30 : goal.returns-then-half-le30
unfolding level_of
returns-then-half-le30 c = omega arith

pub returns-else-half-le30 : goal.returns-else-half-le30
unfolding level_of
returns-else-half-le30 c = omega arith
