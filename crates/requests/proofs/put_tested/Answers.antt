-- `requests::put_tested`: the engines agree, or not.
use Rattle.requests.proofs.Laws.{wrote_agreed, wrote_disagree}
use Rattle.requests.proofs.put_tested.Goals as goal

pub returns-then-t : goal.returns-then-t
returns-then-t c = wrote_agreed _ _ _ _ _ _ c.if-t.true c.put_answer.ensures

pub returns : goal.returns
returns c = wrote_disagree _ _ _ _ _ _ c.if-t.false c.put_disagree.ensures
