use mathlib.Core.Path.{refl}
use Rattle.cellunion.proofs.Runs.{pass_next, pass_turn, pass_done}
use Rattle.cellunion.proofs.pass.Goals as goal

pub loop-i-init : goal.loop-i-init
loop-i-init c = record { asks = c.requires; len = refl; rest = refl; same = refl }

pub keep-kept-requires : goal.keep-kept-requires
keep-kept-requires c = pass_next _ _ _ _ c.loop-i.invariant.asks c.loop-i-test.true

pub loop-i-preserved : goal.loop-i-preserved
loop-i-preserved c =
    pass_turn _ _ _ _ _ _ _ _ _ c.loop-i.invariant c.loop-i-test.true c.keep-kept.auto.mem c.keep-kept.ensures

pub shape_of-mem : goal.shape_of-mem
shape_of-mem c = c.loop-i.invariant.len

pub returns : goal.returns
returns c = pass_done _ _ _ _ _ _ _ c.loop-i.invariant c.loop-i-test.false
