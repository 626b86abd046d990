use Rattle.std.proofs.lemmas.Result.{err_from_is_err_and}
use Rattle.coverer.proofs.Runs.{going_spent, going_end, going_stop, going_turn}
use mathlib.Core.Path.{refl}
use native.Mathlib.Omega.{arith}
use Rattle.coverer.proofs.Job.proceed.Goals as goal

pub loop-t-init : goal.loop-t-init
loop-t-init c = record { live = c.requires.live; left = c.requires.steps_le_allowance; goes = λ l R. R; frame = refl }

-- the allowance is used up
pub returns-else-t-allowance : goal.returns-else-t-allowance
returns-else-t-allowance c = let I = c.loop-t.invariant in going_spent _ _ _ _ _ _ _ I (omega (arith, I.left, c.if-t-allowance.false))

pub step-requires : goal.step-requires
step-requires c =
    let I = c.loop-t.invariant in
    record {
      live = I.live;
      queued_nonzero = (c.loop-t-test.true, omega (arith, I.left, c.if-t-allowance.true));
    }

pub returns-in_err-t : goal.returns-in_err-t
returns-in_err-t c = let p = err_from_is_err_and c.from_residual.result c.from_residual.ensures.1 in rw (p.1, p.2) (going_stop _ _ _ _ _ _ _ c.loop-t.invariant _ _ c.loop-t-test.true (λ e. omega (arith, c.if-t-allowance.true)) c.step.ensures _ c.in_err-t.was)

pub loop-t-smaller : goal.loop-t-smaller
loop-t-smaller c =
    let T = going_turn _ _ _ _ _ _ _ c.loop-t.invariant _ _ c.loop-t-test.true (λ e. omega (arith, c.if-t-allowance.true)) c.step.ensures _ c.in_ok-t.was in
    omega (arith, T.1, T.0.left)

pub loop-t-preserved : goal.loop-t-preserved
loop-t-preserved c = (going_turn _ _ _ _ _ _ _ c.loop-t.invariant _ _ c.loop-t-test.true (λ e. omega (arith, c.if-t-allowance.true)) c.step.ensures _ c.in_ok-t.was).0

-- the queue is empty
pub returns-after-loop-t : goal.returns-after-loop-t
returns-after-loop-t c = going_end _ _ _ _ _ _ _ c.loop-t.invariant c.loop-t-test.false
