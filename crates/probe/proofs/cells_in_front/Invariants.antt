-- `probe::cells_in_front`: the words before i are cells.
use Rattle.fast.specs.Memory.{Cells}
use Rattle.probe.proofs.cells_in_front.Given as goal

abbrev pub invariant-loop-i : goal.invariant-loop-i
invariant-loop-i l = Cells l.i l.ids
