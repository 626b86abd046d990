-- `ranges::size`: from the largest cell that can begin there down to a leaf.
use Rattle.std.proofs.Common.{◌-◌, ◌<◌}
use Rattle.ranges.proofs.Tilings.{Sizing}
use Rattle.ranges.proofs.size.Given as goal

abbrev pub invariant-loop-k : goal.invariant-loop-k
invariant-loop-k l = record { some : 0 < l.k; down : Sizing l.s l.e (l.k - 1) }
