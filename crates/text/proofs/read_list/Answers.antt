-- `text::read_list`: no count, or as many numbers as it says, in the first places.
use Rattle.std.proofs.lemmas.Result.{err_from_is_err_and}
use Rattle.text.proofs.Laws.{list_fault, list_read}
use Rattle.text.proofs.read_list.Goals as goal

pub returns-in_err-count : goal.returns-in_err-count
returns-in_err-count c =
    let p = err_from_is_err_and c.from_residual.result c.from_residual.ensures.1 in
    rw (p.1, p.2) (list_fault _ _ _ _ c.in_err-count.ensures.value)

pub returns-in_err-after : goal.returns-in_err-after
returns-in_err-after c =
    let p = err_from_is_err_and c.from_residual-in_err-after.result c.from_residual-in_err-after.ensures.1 in
    rw (p.1, p.2) (list_read _ _ _ c.in_ok-count.count c.in_ok-count.ensures.value c.in_ok-count.ensures.within _ _ c.in_err-after.ensures.0 c.in_err-after.ensures.1)

pub returns : goal.returns
returns c = list_read _ _ _ c.in_ok-count.count c.in_ok-count.ensures.value c.in_ok-count.ensures.within _ _ c.in_ok-after.ensures.0 c.in_ok-after.ensures.1
