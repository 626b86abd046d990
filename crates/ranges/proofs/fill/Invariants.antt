-- `ranges::fill`: the cells of one pair after another.
use Prim.Native.Nat.{◌-◌}
use lib.ListN.{length}
use Rattle.ranges.proofs.Tilings.{Filling}
use Rattle.ranges.proofs.fill.Given as goal

abbrev pub invariant-loop-i : goal.invariant-loop-i
invariant-loop-i l = Filling l.ps l.initial.out l.out l.at l.i

abbrev pub decreases-loop-i : goal.decreases-loop-i
decreases-loop-i l = length l.ps - l.i
