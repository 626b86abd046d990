-- `covering::lay_list` meets its contract, by the cases of the list that is asked for. Assumes nothing.
use mathlib.Core.Path.{sym}
use lib.Seq.{length-take-le}
use Rattle.covering.proofs.Answers.{front_asks, LayDone, lay_raw, lay_union, lay_covering}
use Rattle.covering.proofs.lay_list.Goals as goal

pub slice_bounds-lay-end-in-CellUnion : goal.slice_bounds-lay-end-in-CellUnion
slice_bounds-lay-end-in-CellUnion c = (front_asks _ _ _ _ c.normalize-k.ensures c.requires.0 c.requires.1 c.normalize-k.auto.mem).0

pub slice_bounds-lay-end-in-CellUnion-2 : goal.slice_bounds-lay-end-in-CellUnion-2
slice_bounds-lay-end-in-CellUnion-2 c = sym (length-take-le _ _ (front_asks _ _ _ _ c.normalize-k.ensures c.requires.0 c.requires.1 c.normalize-k.auto.mem).0)

pub slice_bounds-denormalize-end : goal.slice_bounds-denormalize-end
slice_bounds-denormalize-end c = (front_asks _ _ _ _ c.normalize-k-in-Covering.ensures c.requires.0 c.requires.1 c.normalize-k-in-Covering.auto.mem).0

pub slice_bounds-denormalize-end-in-Covering : goal.slice_bounds-denormalize-end-in-Covering
slice_bounds-denormalize-end-in-Covering c = sym (length-take-le _ _ (front_asks _ _ _ _ c.normalize-k-in-Covering.ensures c.requires.0 c.requires.1 c.normalize-k-in-Covering.auto.mem).0)

pub denormalize-requires : goal.denormalize-requires
denormalize-requires c =
    let a = front_asks _ _ _ _ c.normalize-k-in-Covering.ensures c.requires.0 c.requires.1 c.normalize-k-in-Covering.auto.mem in
    (a.1, c.requires.2, c.requires.3)

pub returns-in-Raw : goal.returns-in-Raw
unfolding LayDone
returns-in-Raw c = lay_raw _ _ _ _ _ _ _ c.in-Raw.is c.lay.ensures

pub returns-in-CellUnion : goal.returns-in-CellUnion
unfolding LayDone
returns-in-CellUnion c = lay_union _ _ _ _ _ _ _ _ _ c.normalize-k.ensures c.in-CellUnion.is c.lay-in-CellUnion.ensures

pub returns-in-Covering : goal.returns-in-Covering
unfolding LayDone
returns-in-Covering c = lay_covering _ _ _ _ _ _ _ _ _ c.normalize-k-in-Covering.ensures c.in-Covering.is c.denormalize.ensures
