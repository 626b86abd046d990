-- `probe::cell_id`: a valid id is a cell's, and so is that of a face.
use Rattle.probe.proofs.Laws.{tested_cell, is_face}
use Rattle.probe.proofs.cell_id.Goals as goal

pub returns-then-is_valid : goal.returns-then-is_valid
returns-then-is_valid c = tested_cell _ c.is_valid.ensures c.if-is_valid.true

pub returns : goal.returns
returns c = is_face
