-- `probe::answer_list`: none of the refusals 1 to 4 is due, and the ids are cells.
use mathlib.Core.Path.{sym, ◌∙◌}
use Rattle.bars.proofs.Early.{early_none}
use Rattle.covering.proofs.Starts.{valid_domain}
use Rattle.probe.proofs.answer_list.Goals as goal

pub put_answer-requires : goal.put_answer-requires
put_answer-requires c =
    let v = early_none _ _ _ (sym c.first_refusal-first.ensures ∙ c.in-Ok.is) in
    (valid_domain _ _ _ v, c.cells_in_front-m.ensures)
