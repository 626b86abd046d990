use lib.Dec.{lit<}
use native.Mathlib.Omega.{arith}
use Rattle.cell.proofs.Laws.{cell_face}
use Rattle.probe.proofs.put_numbers.Goals as goal

pub number_of-requires : goal.number_of-requires
number_of-requires c = (c.requires, rw c.from_id-c.ensures (cell_face _ c.requires), lit< tt)

pub number_of-requires-in-loop-i : goal.number_of-requires-in-loop-i
number_of-requires-in-loop-i c =
    (c.requires, rw c.from_id-c.ensures (cell_face _ c.requires), grind arith)
