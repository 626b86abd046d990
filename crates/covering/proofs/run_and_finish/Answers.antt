-- `covering::run_and_finish` meets its contract: the refusals of the run, then what its end gives. Assumes nothing.
use mathlib.Core.Path.{sym, ◌∙◌}
use Rattle.std.proofs.lemmas.Result.{err_from_is_err_and}
use Rattle.covering.proofs.Answers.{ran_done, respond_late, finish_asks, finish_holds, respond_done}
use Rattle.covering.proofs.run_and_finish.Goals as goal

pub finish-requires : goal.finish-requires
finish-requires c =
    let r = c.run_from_starts in
    let d = ran_done _ _ (sym c.in_ok-ran.was ∙ r.ensures.0) in
    record {
      memory_words_in_bounds = finish_asks c.args.e _ _ _ _ _ c.args.out.now c.requires _ r.ensures.1 _ d r.auto.mem;
      mem_value = finish_holds c.args.e _ _ _ _ _ c.args.out.now c.requires _ r.ensures.1 _ d r.auto.mem;
    }

pub returns-in_err-ran : goal.returns-in_err-ran
returns-in_err-ran c =
    let p = err_from_is_err_and c.from_residual.result c.from_residual.ensures.1 in
    rw (p.1, p.2) (respond_late _ _ _ _ _ _ _ c.requires _ c.run_from_starts.ensures.1 _ (sym c.in_err-ran.was ∙ c.run_from_starts.ensures.0))

pub returns : goal.returns
returns c =
    let r = c.run_from_starts in
    respond_done _ _ _ _ _ _ _ c.requires _ r.ensures.1 _ (ran_done _ _ (sym c.in_ok-ran.was ∙ r.ensures.0)) r.auto.mem _ _ _ c.finish.ensures
