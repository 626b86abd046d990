-- `sight::four` meets its contract.
use Rattle.std.proofs.Common.{rules}
use Rattle.sight.proofs.Laws.{two_sets}
use Rattle.sight.proofs.four.Goals as goal

pub returns : goal.returns
returns c = two_sets _ _ _ _ _ (search rules)
