-- `cell::quarters_of` meets its contract.
use Rattle.hilbert.proofs.Laws.{face_ij_in}
use Rattle.cell.specs.Siblings.{quarters_of}
use Rattle.cell.proofs.quarters_of.Goals as goal

pub lines_at-x-requires : goal.lines_at-x-requires
lines_at-x-requires c =
    let f = face_ij_in c.args.id c.requires.0 in
    (rw c.face_ij_orientation-f.ensures f.i, rw c.level-level.ensures c.requires.1)

pub lines_at-y-requires : goal.lines_at-y-requires
lines_at-y-requires c =
    let f = face_ij_in c.args.id c.requires.0 in
    (rw c.face_ij_orientation-f.ensures f.j, rw c.level-level.ensures c.requires.1)

pub returns : goal.returns
unfolding quarters_of
returns c = rw (c.lines_at-x.ensures, c.lines_at-y.ensures, c.level-level.ensures, c.face_ij_orientation-f.ensures)
