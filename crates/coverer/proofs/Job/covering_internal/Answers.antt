-- `Job::covering_internal` meets its contract.
use Rattle.std.proofs.lemmas.Result.{err_from_is_err_and}
use Rattle.coverer.proofs.Runs.{runs_live, runs_room, runs_refused, runs_on}
use Rattle.coverer.proofs.Job.covering_internal.Goals as goal

pub proceed-requires : goal.proceed-requires
proceed-requires c =
    let d = c.initial_candidates in
    let e = c.in_ok-t.was in
    record {
      live = runs_live _ _ _ _ _ _ c.args.allowance d.ensures _ e c.requires.all c.requires.count_bound;
      steps_le_allowance = runs_room _ _ _ _ _ _ _ d.ensures _ e;
    }

pub returns-in_err-t : goal.returns-in_err-t
returns-in_err-t c = let p = err_from_is_err_and c.from_residual.result c.from_residual.ensures.1 in rw (p.1, p.2) (runs_refused _ _ _ _ _ _ _ c.initial_candidates.ensures _ c.in_err-t.was)

pub returns : goal.returns
returns c = runs_on _ _ _ _ _ _ _ c.initial_candidates.ensures _ c.in_ok-t.was _ _ c.proceed.ensures
