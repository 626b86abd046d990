use mathlib.Core.Path.{refl}
use native.Mathlib.Omega.{arith}
use Rattle.cellunion.proofs.Lists.{check_bad, check_pos, check_on, check_end}
use Rattle.cellunion.proofs.is_valid.Goals as goal

pub listed-requires : goal.listed-requires
listed-requires c = tt

pub loop-id-init : goal.loop-id-init
loop-id-init c = record { within = omega arith; same = refl }

pub returns-then-not-listed : goal.returns-then-not-listed
returns-then-not-listed c = check_bad _ _ _ _ c.loop-id.invariant c.loop-id-test.true c.listed.ensures c.if-not-listed.true

pub range_max-last-requires : goal.range_max-last-requires
range_max-last-requires c = check_pos _ _ _ c.listed.ensures c.if-not-listed.false

pub loop-id-preserved : goal.loop-id-preserved
loop-id-preserved c =
    check_on _ _ _ _ _ c.loop-id.invariant c.loop-id-test.true c.listed.ensures c.if-not-listed.false c.range_max-last.ensures

pub returns : goal.returns
returns c = check_end _ _ _ c.loop-id.invariant c.loop-id-test.false
