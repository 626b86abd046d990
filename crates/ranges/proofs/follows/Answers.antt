-- `ranges::follows`: one test after another.
use Rattle.std.proofs.Common.{arith}
use Rattle.std.proofs.lemmas.Bool.Decides.{nat_tests}
use Rattle.ranges.specs.Ranges.{follows}
use Rattle.ranges.proofs.follows.Goals as goal

pub returns-then-first-last : goal.returns-then-first-last
unfolding follows
returns-then-first-last c = grind (arith, nat_tests)

pub returns-else-first-last : goal.returns-else-first-last
unfolding follows
returns-else-first-last c = grind (arith, nat_tests)
