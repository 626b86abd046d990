use Rattle.coverer.proofs.Watching.{list_start, list_room, list_turn, list_end}
use lib.ListN.{length-set}
use native.Mathlib.Omega.{arith}
use Rattle.coverer.proofs.list_queue.Goals as goal

pub loop-left-init : goal.loop-left-init
loop-left-init c = list_start _ _ _ _ _

pub shape_of-out : goal.shape_of-out
shape_of-out c = c.loop-left.invariant.len

pub take-r-requires : goal.take-r-requires
take-r-requires c =
    let P = c.requires in
    let I = c.loop-left.invariant in
    omega (arith, P.0, I.within, I.long, c.loop-left-test.true)

pub bounds-out-i : goal.bounds-out-i
bounds-out-i c =
    let P = c.requires in
    omega (arith, list_room _ _ _ _ _ _ _ _ _ (omega arith) P.0 P.1 c.loop-left.invariant c.loop-left-test.true)

pub bounds-out-i-in-loop-left : goal.bounds-out-i-in-loop-left
bounds-out-i-in-loop-left c =
    let P = c.requires in
    simp length-set (omega (arith, list_room _ _ _ _ _ _ _ _ _ (omega arith) P.0 P.1 c.loop-left.invariant c.loop-left-test.true))

pub bounds-out-i-in-loop-left-2 : goal.bounds-out-i-in-loop-left-2
bounds-out-i-in-loop-left-2 c =
    let P = c.requires in
    simp length-set (list_room _ _ _ _ _ _ _ _ _ (omega arith) P.0 P.1 c.loop-left.invariant c.loop-left-test.true)

pub loop-left-preserved : goal.loop-left-preserved
loop-left-preserved c =
    let P = c.requires in
    let p = c.take-r in
    rw (c.cost.ensures, c.from.ensures) (list_turn _ _ _ _ _ _ _ _ _ (omega arith) P.0 P.1 c.loop-left.invariant _ _ c.loop-left-test.true p.ensures.value p.ensures.m_after p.auto.m)

pub returns : goal.returns
returns c =
    let P = c.requires in
    let I = c.loop-left.invariant in
    record {
      out_after = list_end _ _ _ _ _ _ _ _ _ (omega arith) P.0 P.1 I c.loop-left-test.false;
      m_unchanged = I.frame;
    }
