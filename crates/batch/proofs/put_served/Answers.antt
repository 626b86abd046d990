-- `batch::put_served`: a success, or a refusal; there is room for either.
use Rattle.batch.proofs.Laws.{wrote_done, wrote_refused, served_whole}
use Rattle.batch.proofs.put_served.Goals as goal

pub returns-then-o-eq0 : goal.returns-then-o-eq0
returns-then-o-eq0 c = served_whole _ _ _ _ _ _ _ c.requires.1 (wrote_done _ _ _ _ _ _ _ c.if-o-eq0.true c.put_done.ensures)

pub returns : goal.returns
returns c = served_whole _ _ _ _ _ _ _ c.requires.1 (wrote_refused _ _ _ _ _ _ _ c.if-o-eq0.false c.put_refused.ensures)
