use Rattle.cellunion.proofs.Runs.{Going}
use Rattle.cellunion.proofs.collapse.Given as goal

abbrev pub invariant-loop-left : goal.invariant-loop-left
invariant-loop-left l = Going l.mem l.k l.c l.left l.top

abbrev pub decreases-loop-left : goal.decreases-loop-left
decreases-loop-left l = l.left
