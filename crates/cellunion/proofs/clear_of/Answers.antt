use mathlib.Core.Path.{refl, sym, ◌∙◌}
use native.Mathlib.Omega.{arith}
use Rattle.cellunion.proofs.Runs.{clear_go, clear_stop, clear_end}
use Rattle.cellunion.proofs.clear_of.Goals as goal

pub loop-left-init : goal.loop-left-init
loop-left-init c = (omega arith, refl)

pub contains-requires : goal.contains-requires
contains-requires c = c.requires.1

pub loop-left-preserved : goal.loop-left-preserved
loop-left-preserved c =
    (omega arith, sym (clear_go _ _ _ _ c.loop-left-test.true c.contains.ensures c.if-contains.true) ∙ c.loop-left.invariant.1)

pub returns-after-loop-left : goal.returns-after-loop-left
returns-after-loop-left c = (c.loop-left.invariant.0, sym (clear_end _ _ _ c.loop-left-test.false) ∙ c.loop-left.invariant.1)

pub returns-else-contains : goal.returns-else-contains
returns-else-contains c =
    (c.loop-left.invariant.0, sym (clear_stop _ _ _ _ c.loop-left-test.true c.contains.ensures c.if-contains.false) ∙ c.loop-left.invariant.1)
