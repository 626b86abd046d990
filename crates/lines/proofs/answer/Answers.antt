-- `lines::answer`: a question about a list, or any other line.
use mathlib.Core.Path.{sym, ◌∙◌}
use Rattle.lines.proofs.Laws.{replied_list, replied_other}
use Rattle.lines.proofs.answer.Goals as goal

pub returns-then-asks_list : goal.returns-then-asks_list
returns-then-asks_list c = replied_list _ _ _ _ _ _ _ _ _ _ (sym c.asks_list.ensures ∙ c.if-asks_list.true) c.answer_list.ensures

pub returns : goal.returns
returns c = replied_other _ _ _ _ _ _ _ _ _ _ _ (sym c.asks_list.ensures ∙ c.if-asks_list.false) c.answer.ensures
