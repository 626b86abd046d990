-- `requests::answer_run`: what the line asks, asked of the engines.
use Rattle.requests.proofs.Laws.{answered_for}
use Rattle.requests.proofs.answer_run.Goals as goal

pub returns : goal.returns
returns c = (answered_for _ _ _ _ _ _ _ c.allowance_of.ensures c.respond.ensures.0, c.respond.ensures.1)
