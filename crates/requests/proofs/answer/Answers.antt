-- `requests::answer`: a line that asks nothing, a request, or a fault.
use Rattle.std.proofs.Common.{sym, ◌∙◌}
use Rattle.requests.proofs.Laws.{replied_nothing, replied_asked, replied_bad, ids_fit, asked_fits}
use Rattle.requests.proofs.answer.Goals as goal

pub returns-then-is_silent : goal.returns-then-is_silent
returns-then-is_silent c = replied_nothing _ _ _ _ _ _ (sym c.is_silent.ensures ∙ c.if-is_silent.true)

pub region-requires : goal.region-requires
region-requires c = ids_fit _ _ _ _ c.in-Ok.ensures

pub put_tested-requires : goal.put_tested-requires
put_tested-requires c = asked_fits _ _ _ _ _ _ c.answer_in-t.ensures.0

pub returns-in-Ok : goal.returns-in-Ok
returns-in-Ok c =
    replied_asked _ _ _ _ _ _ _ _ _ (sym c.is_silent.ensures ∙ c.if-is_silent.false) c.requires c.in-Ok.q c.in-Ok.ensures _ c.answer_in-t.result _ _ c.region.ensures c.answer_in-t.ensures c.put_tested.ensures

pub returns-in-Err : goal.returns-in-Err
returns-in-Err c =
    replied_bad _ _ _ _ _ _ _ _ _ (sym c.is_silent.ensures ∙ c.if-is_silent.false) c.requires c.in-Err.fault c.in-Err.ensures c.put_error.ensures
