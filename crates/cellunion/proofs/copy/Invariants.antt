-- `cellunion::copy`: what is left to copy.
use Rattle.cellunion.proofs.Memory.{Laying}
use Rattle.cellunion.proofs.copy.Given as goal

abbrev pub invariant-loop-i : goal.invariant-loop-i
invariant-loop-i l = Laying l.ids l.n l.initial.out l.out l.i
