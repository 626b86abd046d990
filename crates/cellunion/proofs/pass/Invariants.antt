use Rattle.cellunion.proofs.Runs.{Passing}
use Rattle.cellunion.proofs.pass.Given as goal

abbrev pub invariant-loop-i : goal.invariant-loop-i
invariant-loop-i l = Passing l.n l.initial.mem 0 0 l.mem l.kept l.i
