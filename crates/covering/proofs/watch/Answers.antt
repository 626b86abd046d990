-- `covering::watch` meets its contract: a request that is barred, or its run as it stands. Assumes nothing.
use mathlib.Core.Path.{sym, ◌∙◌}
use Rattle.std.proofs.lemmas.Result.{err_from_is_err_and}
use Rattle.covering.proofs.Watching.{watched_barred}
use Rattle.covering.proofs.watch.Goals as goal

pub returns-in_err-first_refusal : goal.returns-in_err-first_refusal
returns-in_err-first_refusal c =
    let p = err_from_is_err_and c.from_residual.result c.from_residual.ensures.1 in
    rw (p.1, p.2) (watched_barred _ _ _ _ _ _ _ (sym c.first_refusal.ensures ∙ c.in_err-first_refusal.was))
