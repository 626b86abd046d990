-- `cover::answer_at`: only what stands behind the first bytes is lent.
use native.Mathlib.Omega.{arith}
use Rattle.replies.proofs.Lengths.{within}
use Rattle.cover.proofs.Laws.{told_at}
use Rattle.cover.proofs.answer_at.Goals as goal

pub overflow_add-result : goal.overflow_add-result
overflow_add-result c = let k = within _ _ _ _ c.answer.ensures.wrote in omega arith

pub returns : goal.returns
returns c = told_at _ _ _ _ _ _ _ _ _ _ _ _ _ _ (omega arith) c.answer.ensures
