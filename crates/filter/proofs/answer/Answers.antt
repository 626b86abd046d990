-- `filter::answer`: the other text, or what is said in its place.
use borrow.Author.Rules.{rules}
use Rattle.filter.proofs.Laws.{replied_done, replied_bad}
use Rattle.filter.proofs.answer.Goals as goal

pub returns-in-Ok : goal.returns-in-Ok
returns-in-Ok c = replied_done _ _ _ _ _ _ _ _ c.in-Ok.ensures

pub returns-in-Err : goal.returns-in-Err
returns-in-Err c = replied_bad _ _ _ _ _ _ _ _ _ c.requires _ _ (search rules) c.in-Err.ensures c.put_refusal.ensures
