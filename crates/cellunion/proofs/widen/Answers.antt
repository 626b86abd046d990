-- `cellunion::widen`: the cells before the place, the wide cell, the pass over what is near behind it behind it, and the words left over cleared.
use native.Mathlib.Omega.{arith}
use Rattle.cellid.proofs.Laws.{cell_pos}
use Rattle.cellunion.proofs.Wider.{widen_topped, widen_asks, widen_done}
use Rattle.cellunion.proofs.widen.Goals as goal

pub clear_of-left-requires : goal.clear_of-left-requires
clear_of-left-requires c = let p = c.requires in (omega (arith, p.0, p.2), cell_pos _ _ _ p.3.2)

pub collapse-top-requires : goal.collapse-top-requires
collapse-top-requires c = let p = c.requires in widen_topped _ _ _ _ p.0 p.1 p.2 p.3 p.4 _ c.clear_of-left.ensures.0 c.clear_of-left.ensures.1

pub settle-kept-requires : goal.settle-kept-requires
settle-kept-requires c =
    let p = c.requires in
    widen_asks _ _ _ _ p.0 p.1 p.2 p.3 p.4 _ c.clear_of-left.ensures.0 c.clear_of-left.ensures.1 _ _ c.collapse-top.auto.mem c.collapse-top.ensures

pub returns : goal.returns
returns c =
    let p = c.requires in
    widen_done _ _ _ _ p.0 p.1 p.2 p.3 p.4 _ c.clear_of-left.ensures.0 c.clear_of-left.ensures.1 _ _ c.collapse-top.auto.mem c.collapse-top.ensures _ _ _
    c.settle-kept.auto.mem c.settle-kept.ensures c.clear.ensures
