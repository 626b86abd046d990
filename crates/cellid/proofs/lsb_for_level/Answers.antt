use Rattle.cellid.proofs.Laws.{one_shl}
use Rattle.std.proofs.Common.{arith}
use Rattle.cellid.proofs.lsb_for_level.Goals as goal

pub returns : goal.returns
returns c = one_shl _ (omega arith)
