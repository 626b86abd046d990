-- is_valid
use Rattle.std.proofs.Common.{arith}
use Rattle.std.proofs.lemmas.Bool.Decides.{nat_tests}
use Rattle.cellid.specs.CellId.{valid_id}
use Rattle.cellid.proofs.is_valid.Goals as goal

pub returns-then-low-le60 : goal.returns-then-low-le60
unfolding valid_id
returns-then-low-le60 c = grind (arith, nat_tests)

pub returns-else-low-le60 : goal.returns-else-low-le60
unfolding valid_id
returns-else-low-le60 c = grind (arith, nat_tests)
