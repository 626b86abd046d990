-- `ranges::look_pairs`: one pair after another is tested and counted.
use Prim.Native.Nat.{◌-◌}
use lib.ListN.{length}
use Rattle.ranges.proofs.Looks.{Pairing}
use Rattle.ranges.proofs.look_pairs.Given as goal

abbrev pub invariant-loop-i : goal.invariant-loop-i
invariant-loop-i l = Pairing l.ps l.from l.cells l.i

abbrev pub decreases-loop-i : goal.decreases-loop-i
decreases-loop-i l = length l.ps - l.i
