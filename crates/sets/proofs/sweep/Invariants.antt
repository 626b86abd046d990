-- `sets::sweep`: from one edge of either list to the next.
use Prim.Native.Nat.{◌-◌}
use Rattle.ranges.specs.Ranges.{leaves}
use Rattle.sets.proofs.Turns.{Sweeping}
use Rattle.sets.proofs.sweep.Given as goal

abbrev pub invariant-loop-p : goal.invariant-loop-p
invariant-loop-p l = Sweeping l.op l.a l.b l.initial.out l.out l.first l.second l.s l.p l.at

abbrev pub decreases-loop-p : goal.decreases-loop-p
decreases-loop-p l = leaves - l.p
