-- `fast::Numbers::merge_covering` meets its contract: lift, normalise and merge follow one another. Assumes nothing.
use Rattle.fast.proofs.Turns.{lifted_asks, merge_asks, merge_done}
use Rattle.fast.proofs.numbers.Numbers.merge_covering.Goals as goal

pub lift-requires : goal.lift-requires
lift-requires c = c.requires

pub normalize-k-requires : goal.normalize-k-requires
normalize-k-requires c = lifted_asks _ _ _ 0 _ _ c.requires.0 c.requires.1 _ c.lift.ensures c.lift.auto.mem

pub merge-requires : goal.merge-requires
merge-requires c =
    let a = merge_asks _ _ _ 0 _ _ c.requires.0 c.requires.1 _ c.lift.ensures _ _ c.normalize-k.ensures.0 c.normalize-k.ensures.1 in
    a

pub returns : goal.returns
returns c =
    merge_done _ _ _ _ _ _ c.requires.0 c.requires.1 _ c.lift.ensures _ _ c.normalize-k.ensures.0 c.normalize-k.ensures.1 _ _ c.merge.ensures.0 c.merge.ensures.1
