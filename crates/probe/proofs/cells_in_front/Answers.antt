use Rattle.std.proofs.Common.{arith, rules}
use Rattle.probe.proofs.Laws.{cells_none, cells_more}
use Rattle.probe.proofs.cells_in_front.Goals as goal

pub loop-i-init : goal.loop-i-init
loop-i-init c = cells_none c.args.ids.now

pub loop-i-preserved : goal.loop-i-preserved
loop-i-preserved c = cells_more _ _ (grind arith) c.loop-i.invariant c.is_valid.ensures (search rules)
