use Prim.Native.Nat.{◌≤◌, ◌-◌}
use Rattle.turns.proofs.Laws.{PackedWalk}
use Rattle.hilbert.proofs.Fours.{walk_fours}
use Rattle.hilbert.proofs.face_ij_orientation.Given as goal

abbrev pub invariant-loop-k : goal.invariant-loop-k
invariant-loop-k l = (l.k ≤ 8) × PackedWalk (walk_fours l.id (8 - l.k)) l.ij l.row

abbrev pub decreases-loop-k : goal.decreases-loop-k
decreases-loop-k l = l.k
