-- `tokens::write`: one look, and where all is sound and fits, the lines.
use mathlib.Core.Path.{sym, ◌∙◌}
use Rattle.std.proofs.lemmas.Result.{err_from_is_err_and}
use Rattle.tokens.specs.Tokens.{write_result}
use Rattle.tokens.proofs.Turns.{fits, answered_done, answered_bad}
use Rattle.tokens.proofs.write.Goals as goal

pub put_lines-requires : goal.put_lines-requires
unfolding write_result
put_lines-requires c = (fits _ _ _ _ (sym c.in_ok-look_ids.was ∙ c.look_ids.ensures)).within

pub returns : goal.returns
unfolding write_result
returns c = answered_done _ _ _ _ _ _ (fits _ _ _ _ (sym c.in_ok-look_ids.was ∙ c.look_ids.ensures)) c.put_lines.ensures

pub returns-in_err-look_ids : goal.returns-in_err-look_ids
returns-in_err-look_ids c = let p = err_from_is_err_and c.from_residual.result c.from_residual.ensures.1 in rw (p.1, p.2) (answered_bad _ _ _ (sym c.in_err-look_ids.was ∙ c.look_ids.ensures))
