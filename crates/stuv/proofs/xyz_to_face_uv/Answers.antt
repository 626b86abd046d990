-- `stuv::xyz_to_face_uv` meets its contract.
use Rattle.stuv.specs.Projection.{xyz_to_face_uv}
use Rattle.stuv.proofs.Laws.{face_lt}
use Rattle.stuv.proofs.xyz_to_face_uv.Goals as goal

pub valid_face_xyz_to_uv-uv-requires : goal.valid_face_xyz_to_uv-uv-requires
valid_face_xyz_to_uv-uv-requires c = rw c.face-face.ensures (face_lt c.args.r)

pub returns : goal.returns
unfolding xyz_to_face_uv
returns c = rw (c.valid_face_xyz_to_uv-uv.ensures, c.face-face.ensures)
