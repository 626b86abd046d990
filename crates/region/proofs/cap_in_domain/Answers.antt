-- `region::cap_in_domain` meets its contract.
use Rattle.std.proofs.Common.{arith}
use Rattle.std.proofs.lemmas.Grind.{common_steps}
use Rattle.region.proofs.Laws.{cap_in_domain_lem}
use Rattle.region.proofs.cap_in_domain.Goals as goal

pub returns-then-is_finite-4 : goal.returns-then-is_finite-4
returns-then-is_finite-4 c = rw cap_in_domain_lem (grind (arith, common_steps))

pub returns-else-is_finite-4 : goal.returns-else-is_finite-4
returns-else-is_finite-4 c = rw cap_in_domain_lem (grind (arith, common_steps))
