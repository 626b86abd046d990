use mathlib.Core.Path.{◌≡◌, sym}
use native.Mathlib.Omega.{arith}
use Rattle.cap.proofs.BoundLaws.{level_first, level_up, level_here, level_last}
use Rattle.cap.proofs.level_for.Goals as goal

pub loop-level-init : goal.loop-level-init
loop-level-init c = level_first _

pub loop-level-preserved : goal.loop-level-preserved
loop-level-preserved c = level_up _ _ c.loop-level-test.true c.loop-level.invariant (rw c.threshold.ensures at c.if-not-radius-threshold.false)

pub returns-then-not-radius-threshold : goal.returns-then-not-radius-threshold
returns-then-not-radius-threshold c = sym (level_here _ _ c.loop-level-test.true c.loop-level.invariant (rw c.threshold.ensures at c.if-not-radius-threshold.true))

pub returns : goal.returns
returns c = let e : c.loop-level.level ≡ 30 = omega arith in sym (level_last _ (rw e at c.loop-level.invariant))
