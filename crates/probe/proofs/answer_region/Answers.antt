-- `probe::answer_region`: none of the refusals 1 to 6 is due, and the id is a cell's.
use mathlib.Core.Path.{sym, ◌∙◌}
use Rattle.bars.proofs.Early.{early_none}
use Rattle.covering.proofs.Starts.{valid_domain}
use Rattle.probe.proofs.answer_region.Goals as goal

pub put_region-requires : goal.put_region-requires
put_region-requires c =
    let v = early_none _ _ _ (sym c.first_refusal-first.ensures ∙ c.in-Ok.is) in
    (valid_domain _ _ _ v, v.region, c.cell_id-id.ensures)
