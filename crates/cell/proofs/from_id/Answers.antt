-- `cell::from_id` meets its contract.
use Rattle.cell.specs.Cell.{cell_of}
use Rattle.hilbert.proofs.Laws.{face_ij_in}
use Rattle.cellid.proofs.Laws.{level_le}
use Rattle.cell.proofs.from_id.Goals as goal

pub ij_level_to_bound_uv-uv-requires : goal.ij_level_to_bound_uv-uv-requires
ij_level_to_bound_uv-uv-requires c =
    let f = face_ij_in c.args.id c.requires in
    let e = c.face_ij_orientation-f.ensures in
    (rw e f.i, rw e f.j, rw c.level-level.ensures (level_le c.args.id))

pub returns : goal.returns
unfolding cell_of
returns c = rw (c.ij_level_to_bound_uv-uv.ensures, c.level-level.ensures, c.face_ij_orientation-f.ensures)
