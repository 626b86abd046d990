-- `ranges::aligned`: half of the trailing zeros, 30 at most.
use Rattle.std.proofs.Common.{arith}
use Rattle.ranges.specs.Steps.{aligned}
use Rattle.ranges.proofs.aligned.Goals as goal

pub returns : goal.returns
unfolding aligned
returns c = omega (arith, c.min.ensures, c.from.ensures)
