-- `neighbors::cellid_from_point` meets its contract.
use Rattle.neighbors.specs.Neighbors.{leaf_of_point}
use Rattle.neighbors.proofs.Floats.{ij_lt}
use Rattle.neighbors.proofs.Laws.{face_uv_lt, point_leaf}
use Rattle.neighbors.proofs.cellid_from_point.Goals as goal

pub from_face_ij-requires : goal.from_face_ij-requires
from_face_ij-requires c = record {
  face_bound = rw c.xyz_to_face_uv-f.ensures (face_uv_lt _);
  i_bound = rw c.st_to_ij-i.ensures (ij_lt _);
  j_bound = rw c.st_to_ij-j.ensures (ij_lt _);
}

pub returns-clause-value : goal.returns-clause-value
unfolding leaf_of_point
returns-clause-value c = cc

pub returns-clause-leaf : goal.returns-clause-leaf
returns-clause-leaf c = rw (returns-clause-value c) (point_leaf _)
