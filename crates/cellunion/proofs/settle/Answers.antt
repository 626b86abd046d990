use Rattle.std.proofs.Common.{refl, arith}
use Rattle.cellid.proofs.Laws.{cell_pos}
use Rattle.cellunion.proofs.Runs.{pass_next}
use Rattle.cellunion.proofs.Settled.{settle_turn, rests_far, settle_done, settle_through}
use Rattle.cellunion.proofs.settle.Goals as goal

pub loop-i-init : goal.loop-i-init
loop-i-init c = record { passing = record { asks = c.requires.0; len = refl; rest = refl; same = refl }; list = c.requires.1 }

pub near-requires : goal.near-requires
near-requires c =
    let P = c.loop-i.invariant.passing.asks in
    (omega (arith, P.few, P.within, P.room), P.stack.cells, cell_pos _ _ _ (pass_next _ _ _ _ P c.loop-i-test.true).1.cell.2)

pub keep-kept-requires : goal.keep-kept-requires
keep-kept-requires c = pass_next _ _ _ _ c.loop-i.invariant.passing.asks c.loop-i-test.true

pub loop-i-preserved : goal.loop-i-preserved
loop-i-preserved c = settle_turn _ _ _ _ _ _ _ _ _ c.loop-i.invariant c.loop-i-test.true c.keep-kept.auto.mem c.keep-kept.ensures

pub returns-then-not-near : goal.returns-then-not-near
returns-then-not-near c =
    let G = c.loop-i.invariant in
    settle_done _ _ _ _ _ _ _ _ _ G (rests_far _ _ _ _ _ _ _ _ G c.loop-i-test.true c.near.ensures c.if-not-near.true) c.shift.ensures.0 c.shift.ensures.1

pub returns : goal.returns
returns c = settle_through _ _ _ _ _ _ _ c.loop-i.invariant c.loop-i-test.false
