-- `neighbors::from_face_ij_same` meets its contract.
use Rattle.std.proofs.Common.{arith}
use Rattle.neighbors.specs.Neighbors.{leaf_beside}
use Rattle.neighbors.proofs.from_face_ij_same.Goals as goal

pub overflow_sub-i : goal.overflow_sub-i
overflow_sub-i c = let on = c.requires.on_face c.if-same.true in omega (arith, on.0)

pub overflow_sub-j : goal.overflow_sub-j
overflow_sub-j c = let on = c.requires.on_face c.if-same.true in omega (arith, on.2)

pub from_face_ij-requires : goal.from_face_ij-requires
from_face_ij-requires c = let on = c.requires.on_face c.if-same.true in
    record {
      face_bound = c.requires.face_bound;
      i_bound = omega (arith, on.0, on.1);
      j_bound = omega (arith, on.2, on.3);
    }

pub returns-then-same : goal.returns-then-same
unfolding leaf_beside
returns-then-same c = rw c.if-same.true c.from_face_ij.ensures

pub returns-else-same : goal.returns-else-same
unfolding leaf_beside
returns-else-same c = rw c.if-same.false c.from_face_ij_wrap.ensures
