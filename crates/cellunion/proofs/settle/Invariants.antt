-- `cellunion::settle`: the pass as far as the next cell is near, and the words behind that moved down.
use Rattle.cellunion.proofs.Settled.{Settling}
use Rattle.cellunion.proofs.settle.Given as goal

abbrev pub invariant-loop-i : goal.invariant-loop-i
invariant-loop-i l = Settling l.n l.initial.mem l.k l.from l.mem l.kept l.i
