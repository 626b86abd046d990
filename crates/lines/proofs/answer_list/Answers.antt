-- `lines::answer_list`: a question, or a fault.
use Rattle.std.proofs.Common.{sym, length-take-le}
use Rattle.lines.proofs.Laws.{lists_fit, first_fits, answer_fits, list_asked, list_bad}
use Rattle.lines.proofs.answer_list.Goals as goal

pub slice_bounds-answer_in-end : goal.slice_bounds-answer_in-end
slice_bounds-answer_in-end c = lists_fit _ _ _ _ c.in-Ok.ensures

pub slice_bounds-answer_in-end-in-Ok : goal.slice_bounds-answer_in-end-in-Ok
slice_bounds-answer_in-end-in-Ok c = sym (length-take-le _ _ (lists_fit _ _ _ _ c.in-Ok.ensures))

pub answer_in-a-requires : goal.answer_in-a-requires
answer_in-a-requires c = first_fits _ _ _ _ c.in-Ok.ensures

pub put_answer-requires : goal.put_answer-requires
put_answer-requires c = answer_fits _ _ _ _ _ _ _ c.answer_in-a.ensures

pub returns-in-Ok : goal.returns-in-Ok
returns-in-Ok c = list_asked _ _ _ _ _ _ _ _ c.requires c.in-Ok.q c.in-Ok.ensures c.answer_in-a.result _ c.answer_in-a.ensures c.put_answer.ensures

pub returns-in-Err : goal.returns-in-Err
returns-in-Err c = list_bad _ _ _ _ _ _ _ _ c.requires c.in-Err.fault c.in-Err.ensures c.put_error.ensures
