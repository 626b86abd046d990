-- `covering::respond` meets its contract: a request that is barred, or what it comes to. Assumes nothing.
use mathlib.Core.Path.{sym, ◌∙◌}
use Rattle.std.proofs.lemmas.Result.{err_from_is_err_and}
use Rattle.covering.specs.Covering.{result_of}
use Rattle.covering.proofs.Answers.{answered_barred, answered_open}
use Rattle.covering.proofs.respond.Goals as goal

pub returns-in_err-first_refusal : goal.returns-in_err-first_refusal
unfolding result_of
returns-in_err-first_refusal c =
    let p = err_from_is_err_and c.from_residual.result c.from_residual.ensures.1 in
    rw (p.1, p.2) (answered_barred _ _ _ _ _ (sym c.first_refusal.ensures ∙ c.in_err-first_refusal.was))

pub returns : goal.returns
unfolding result_of
returns c = answered_open _ _ _ _ _ _ _ (sym c.first_refusal.ensures ∙ c.in_ok-first_refusal.was) c.come_to.ensures
