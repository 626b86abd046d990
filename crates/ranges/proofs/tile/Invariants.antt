-- `ranges::tile`: one cell after another.
use Prim.Native.Nat.{◌-◌}
use Rattle.ranges.proofs.Tilings.{Tiling}
use Rattle.ranges.proofs.tile.Given as goal

abbrev pub invariant-loop-from : goal.invariant-loop-from
invariant-loop-from l = Tiling l.s l.e l.initial.out l.at l.out l.from l.place

abbrev pub decreases-loop-from : goal.decreases-loop-from
decreases-loop-from l = l.e - l.from
