use Rattle.std.proofs.lemmas.Result.{err_from_is_err_and}
use Rattle.coverer.proofs.Runs.{starting, starting_turn, starting_stop, starting_end}
use Rattle.order.proofs.OrderLaws.{all_get}
use Rattle.run.proofs.Totals.{leaves_le}
use lib.ListN.{get_or}
use mathlib.Core.Path.{refl}
use native.Mathlib.Omega.{arith}
use Rattle.coverer.proofs.Job.initial_candidates.Goals as goal

pub loop-i-init : goal.loop-i-init
loop-i-init c = starting _ _ _ _

pub start-turn-requires-clause-fit : goal.start-turn-requires-clause-fit
start-turn-requires-clause-fit c = all_get _ c.args.starts.now 0 c.loop-i.i c.loop-i-test.true c.requires.all

pub start-turn-requires-clause-aside_fits : goal.start-turn-requires-clause-aside_fits
start-turn-requires-clause-aside_fits c = omega (arith, leaves_le (get_or c.args.starts.now c.loop-i.i 0))

pub returns-in_err-t : goal.returns-in_err-t
returns-in_err-t c =
    let p = err_from_is_err_and c.from_residual.result c.from_residual.ensures.1 in
    rw (p.1, p.2)
    (starting_stop _ _ _ _ _ _ _ _ _ _ _ c.loop-i-test.true (omega (arith, c.requires.count_bound, c.loop-i-test.true)) refl c.start-turn.ensures c.end_turn.ensures c.loop-i.invariant _ c.in_err-t.was)

pub loop-i-preserved : goal.loop-i-preserved
loop-i-preserved c =
    starting_turn _ _ _ _ _ _ _ _ _ _ _ c.loop-i-test.true (omega (arith, c.requires.count_bound, c.loop-i-test.true)) refl c.start-turn.ensures c.end_turn.ensures c.loop-i.invariant _ c.in_ok-t.was

pub returns : goal.returns
returns c = starting_end _ _ _ _ _ _ _ (omega arith) c.loop-i.invariant
