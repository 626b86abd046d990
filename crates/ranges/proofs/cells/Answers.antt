-- `ranges::cells`: refused as the one look told, or for want of room, or the cells are written.
use Rattle.std.proofs.lemmas.Result.{err_from_is_err_and}
use Rattle.ranges.specs.Ranges.{cells_result}
use Rattle.ranges.proofs.Answers.{looked_done, answer_bad, answer_full, answer_done}
use Rattle.ranges.proofs.cells.Goals as goal

pub returns-in_err-count : goal.returns-in_err-count
unfolding cells_result
returns-in_err-count c = let p = err_from_is_err_and c.from_residual.result c.from_residual.ensures.1 in rw (p.1, p.2) (answer_bad _ _ _ _ c.in_err-count.ensures)

pub returns-then-out-count : goal.returns-then-out-count
unfolding cells_result
returns-then-out-count c = answer_full _ _ _ _ c.in_ok-count.ensures c.if-out-count.true

pub fill-requires : goal.fill-requires
fill-requires c = (looked_done _ _ _ c.in_ok-count.ensures).0

pub returns : goal.returns
unfolding cells_result
returns c = answer_done _ _ _ _ _ _ c.in_ok-count.ensures c.if-out-count.false c.fill.ensures
