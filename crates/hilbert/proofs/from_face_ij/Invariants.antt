use Prim.Native.Nat.{◌≤◌, ◌-◌}
use Rattle.positions.proofs.Laws.{PackedDigits}
use Rattle.hilbert.proofs.Fours.{digit_fours}
use Rattle.hilbert.proofs.from_face_ij.Given as goal

abbrev pub invariant-loop-k : goal.invariant-loop-k
invariant-loop-k l = (l.k ≤ 8) × PackedDigits (digit_fours l.face l.i l.j (8 - l.k)) l.n l.row

abbrev pub decreases-loop-k : goal.decreases-loop-k
decreases-loop-k l = l.k
