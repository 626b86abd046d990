-- `fast::Numbers::merge` meets its contract. The outer loop's invariant: the rest of the merge, from the list in memory, is the whole merge; the scan's: the best
-- of the pairs passed, and no pair whose exclusive or is `least` or more lies deeper. Assumes nothing.
use Rattle.fast.proofs.Scan.{Scanning}
use Rattle.fast.proofs.Turns.{Going}
use Rattle.fast.proofs.numbers.Numbers.merge.Given as goal

abbrev pub invariant-scan : goal.invariant-scan
invariant-scan l = Scanning l.self.coverer.min_level l.self.coverer.level_mod l.mem l.k l.best l.least l.i

abbrev pub invariant-merge : goal.invariant-merge
invariant-merge l = Going l.self.coverer.min_level l.self.coverer.level_mod l.self.coverer.max_cells l.n l.initial.mem l.mem l.k

abbrev pub decreases-merge : goal.decreases-merge
decreases-merge l = l.k
