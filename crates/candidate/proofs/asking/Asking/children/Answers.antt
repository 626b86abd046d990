-- `children` meets its contract: one rule for the four children.
use mathlib.Core.Path.{sym, ap, ◌∙◌}
use Rattle.std.specs.Prelude.{Some, None}
use Rattle.region.specs.Region.{area_of}
use Rattle.candidate.specs.declared.Candidate.{Candidate}
use Rattle.candidate.specs.Candidate.{task_of}
use Rattle.candidate.proofs.Siblings.{four_seen}
use Rattle.candidate.proofs.asking.Asking.children.Goals as goal

pub returns-in-Some-Kept : goal.returns-in-Some-Kept
returns-in-Some-Kept c =
    let k = rw c.in-Some-Kept.is at c.in-Some-Kept.field-0-is in
    four_seen (task_of c.args.self.request (area_of c.args.self.region)) c.args.id c.requires.cell.0 c.requires.cell.1 _ _ (Some Candidate.Kept) _ c.level-under.ensures (sym (c.in-Some-Kept.is ∙ ap Some k) ∙ c.crossing-c.ensures) c.asks_whole.ensures c.look_children-l.ensures

pub returns-in-Some-Queued : goal.returns-in-Some-Queued
returns-in-Some-Queued c =
    let k = rw c.in-Some-Queued.is at c.in-Some-Queued.field-0-is in
    four_seen (task_of c.args.self.request (area_of c.args.self.region)) c.args.id c.requires.cell.0 c.requires.cell.1 _ _ (Some Candidate.Queued) _ c.level-under.ensures (sym (c.in-Some-Queued.is ∙ ap Some k) ∙ c.crossing-c.ensures) c.asks_whole.ensures c.look_children-l.ensures

pub returns-in-None : goal.returns-in-None
returns-in-None c =
    four_seen (task_of c.args.self.request (area_of c.args.self.region)) c.args.id c.requires.cell.0 c.requires.cell.1 _ _ None _ c.level-under.ensures (sym c.in-None.is ∙ c.crossing-c.ensures) c.asks_whole.ensures c.look_children-l.ensures
