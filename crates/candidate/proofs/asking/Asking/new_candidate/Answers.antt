-- `new_candidate` meets its contract: one look says what the cell is to the run.
use mathlib.Core.Path.{sym, ap, ◌∙◌}
use Rattle.cellid.proofs.Laws.{level_le}
use Rattle.region.specs.Region.{area_of}
use Rattle.candidate.specs.Candidate.{task_of, candidate_of}
use Rattle.candidate.proofs.Siblings.{seen_as}
use Rattle.candidate.proofs.asking.Asking.new_candidate.Goals as goal

pub crossing-c-requires : goal.crossing-c-requires
crossing-c-requires c = (rw c.level-level.ensures (level_le c.args.id), c.args.self.asks.few)

pub returns-in-Outside : goal.returns-in-Outside
returns-in-Outside c =
    let z = c.args in
    ap candidate_of (seen_as (task_of z.self.request (area_of z.self.region)) z.id _ _ _ c.level-level.ensures c.asks_whole.ensures (sym c.in-Outside.is ∙ c.look_at.ensures))

pub returns-in-Crossing : goal.returns-in-Crossing
returns-in-Crossing c =
    let z = c.args in
    c.crossing-c.ensures ∙ ap candidate_of (seen_as (task_of z.self.request (area_of z.self.region)) z.id _ _ _ c.level-level.ensures c.asks_whole.ensures (sym c.in-Crossing.is ∙ c.look_at.ensures))

pub returns-in-Inside : goal.returns-in-Inside
returns-in-Inside c =
    let z = c.args in
    ap candidate_of (seen_as (task_of z.self.request (area_of z.self.region)) z.id _ _ _ c.level-level.ensures c.asks_whole.ensures (sym c.in-Inside.is ∙ c.look_at.ensures))
