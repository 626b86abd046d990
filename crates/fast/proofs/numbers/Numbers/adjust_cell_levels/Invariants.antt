-- `fast::Numbers::adjust_cell_levels` meets its contract. The loop's invariant: the rest of the adjustment, from the kept cells, is the whole. Assumes nothing.
use Rattle.fast.proofs.StartTurns.{Adjusting}
use Rattle.fast.proofs.numbers.Numbers.adjust_cell_levels.Given as goal

abbrev pub invariant-loop-i : goal.invariant-loop-i
invariant-loop-i l = Adjusting l.self.coverer.min_level l.self.coverer.level_mod l.initial.mem l.n l.mem l.kept l.i
