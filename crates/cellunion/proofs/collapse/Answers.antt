use mathlib.Core.Path.{refl}
use native.Mathlib.Omega.{arith}
use lib.ListN.{length-set}
use Rattle.cellunion.proofs.Runs.{siblings_ask, below_face, collapse_turn, collapse_stop, collapse_low, collapse_done}
use Rattle.cellunion.proofs.collapse.Goals.{else-loop-left-test, then-loop-left-test+else-are_siblings}
use Rattle.cellunion.proofs.collapse.Goals as goal

pub loop-left-init : goal.loop-left-init
loop-left-init c = record { within = omega arith; room = c.requires.0; topped = c.requires.1; same = refl }

pub are_siblings-requires : goal.are_siblings-requires
are_siblings-requires c = siblings_ask _ _ _ _ _ c.loop-left.invariant c.loop-left-test.true

pub immediate_parent-top-requires : goal.immediate_parent-top-requires
immediate_parent-top-requires c = below_face _ _ _ _ c.loop-left.invariant.topped.cell _ c.are_siblings.ensures c.if-are_siblings.true

pub loop-left-preserved : goal.loop-left-preserved
loop-left-preserved c = collapse_turn _ _ _ _ _ _ _ c.loop-left.invariant c.loop-left-test.true c.are_siblings.ensures c.if-are_siblings.true c.immediate_parent-top.ensures

pub shape_of-mem : goal.shape_of-mem
shape_of-mem c = simp length-set

pub returns : goal.returns
returns c =
    collapse_done _ _ _ _ _ c.loop-left.invariant (elim c.loop-left-test.branch [
      | else-loop-left-test w ↦ collapse_low _ _ _ w.loop-left-test.false
      | then-loop-left-test+else-are_siblings w ↦ collapse_stop _ _ _ _ w.loop-left-test.true w.are_siblings.ensures w.if-are_siblings.false
    ])
