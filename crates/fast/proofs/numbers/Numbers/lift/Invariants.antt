-- `fast::Numbers::lift` meets its contract. The loop's invariant: the words passed are lifted. Assumes nothing.
use mathlib.Core.Path.{◌≡◌}
use mathlib.Core.List.{◌++◌, map}
use lib.ListN.{take, drop}
use Rattle.fast.specs.Fast.{lifted}
use Rattle.fast.proofs.numbers.Numbers.lift.Given as goal

abbrev pub invariant-loop-id : goal.invariant-loop-id
invariant-loop-id l = l.id-items ≡ map (lifted l.self.coverer.min_level l.self.coverer.max_level l.self.coverer.level_mod) (take l.id-index l.initial.id-items) ++ drop l.id-index l.initial.id-items
