-- `filter::turn`: what was read is written; a refusal is passed on.
use mathlib.Core.Path.{sym}
use lib.Seq.{length-take-le}
use Rattle.std.proofs.lemmas.Result.{err_from_is_err_and}
use Rattle.tokens.proofs.Answers.{written}
use Rattle.filter.proofs.Laws.{turned_done, turned_kept}
use Rattle.filter.proofs.turn.Goals as goal

pub slice_bounds-write-end : goal.slice_bounds-write-end
slice_bounds-write-end c = (written _ _ _ _ c.in_ok-n.ensures).within

pub slice_bounds-write-end-2 : goal.slice_bounds-write-end-2
slice_bounds-write-end-2 c = sym (length-take-le _ _ (written _ _ _ _ c.in_ok-n.ensures).within)

pub returns : goal.returns
returns c = turned_done _ _ _ _ _ _ _ _ _ c.in_ok-n.ensures c.write.ensures

pub returns-in_err-n : goal.returns-in_err-n
returns-in_err-n c = let p = err_from_is_err_and c.from_residual.result c.from_residual.ensures.1 in rw (p.1, p.2) (turned_kept _ _ _ _ _ _ _ c.in_err-n.ensures)
