-- `tokens::read`: one look, and where all is sound and fits, the ids.
use mathlib.Core.Path.{sym, ◌∙◌}
use Rattle.std.proofs.lemmas.Result.{err_from_is_err_and}
use Rattle.tokens.specs.Tokens.{read_result}
use Rattle.tokens.proofs.Turns.{fits, answered_done, answered_bad}
use Rattle.tokens.proofs.read.Goals as goal

pub put_ids-requires : goal.put_ids-requires
unfolding read_result
put_ids-requires c =
    let F = fits _ _ _ _ (sym c.in_ok-look_lines.was ∙ c.look_lines.ensures) in
    (F.all, F.within)

pub returns : goal.returns
unfolding read_result
returns c = answered_done _ _ _ _ _ _ (fits _ _ _ _ (sym c.in_ok-look_lines.was ∙ c.look_lines.ensures)) c.put_ids.ensures

pub returns-in_err-look_lines : goal.returns-in_err-look_lines
returns-in_err-look_lines c = let p = err_from_is_err_and c.from_residual.result c.from_residual.ensures.1 in rw (p.1, p.2) (answered_bad _ _ _ (sym c.in_err-look_lines.was ∙ c.look_lines.ensures))
