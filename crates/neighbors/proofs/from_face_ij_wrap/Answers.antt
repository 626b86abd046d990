-- `neighbors::from_face_ij_wrap` meets its contract.
use Rattle.neighbors.specs.Neighbors.{leaf_wrapped}
use Rattle.neighbors.proofs.Floats.{ij_lt}
use Rattle.neighbors.proofs.Laws.{face_uv_lt}
use Rattle.neighbors.proofs.from_face_ij_wrap.Goals as goal

pub from_face_ij-requires : goal.from_face_ij-requires
from_face_ij-requires c = record {
  face_bound = rw c.xyz_to_face_uv-f.ensures (face_uv_lt _);
  i_bound = rw c.st_to_ij.ensures (ij_lt _);
  j_bound = rw c.st_to_ij-2.ensures (ij_lt _);
}

pub returns : goal.returns
unfolding leaf_wrapped
returns c = cc
