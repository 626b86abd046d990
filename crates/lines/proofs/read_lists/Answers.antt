-- `lines::read_lists`: one list behind the other, or a fault in either.
use Rattle.std.proofs.Common.{arith}
use Rattle.std.proofs.lemmas.Result.{err_from_is_err_and}
use Rattle.lines.proofs.Laws.{read_fits, lists_fault, lists_read}
use Rattle.lines.proofs.read_lists.Goals as goal

pub returns-in_err-a : goal.returns-in_err-a
returns-in_err-a c =
    let p = err_from_is_err_and c.from_residual.result c.from_residual.ensures.1 in
    rw (p.1, p.2) (lists_fault _ _ _ _ _ _ c.in_err-a.ensures)

pub offset_bounds-words-first : goal.offset_bounds-words-first
offset_bounds-words-first c = omega (arith, read_fits _ _ _ _ c.in_ok-a.ensures)

pub slice_bounds-read_second-count : goal.slice_bounds-read_second-count
slice_bounds-read_second-count c = omega (arith, read_fits _ _ _ _ c.in_ok-a.ensures)

pub slice_bounds-read_second-start : goal.slice_bounds-read_second-start
slice_bounds-read_second-start c = omega (arith, read_fits _ _ _ _ c.in_ok-a.ensures)

pub overflow_add-value : goal.overflow_add-value
overflow_add-value c = omega (arith, read_fits _ _ _ _ c.in_ok-a.ensures, read_fits _ _ _ _ c.in_ok-b.ensures)

pub returns-in_err-b : goal.returns-in_err-b
returns-in_err-b c =
    let p = err_from_is_err_and c.from_residual-in_err-b.result c.from_residual-in_err-b.ensures.1 in
    rw (p.1, p.2) (lists_read _ _ _ _ _ c.in_ok-a.a _ _ c.in_ok-a.ensures c.in_err-b.ensures)

pub returns : goal.returns
returns c = lists_read _ _ _ _ _ c.in_ok-a.a _ _ c.in_ok-a.ensures c.in_ok-b.ensures
