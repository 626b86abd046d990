-- `picklist::look_at`: the listed cell that is found decides.
use Rattle.cellid.proofs.Laws.{cell_pos}
use Rattle.sight.specs.Sight.{sight_by, sight_of}
use Rattle.picklist.specs.PickList.{Parts}
use Rattle.picklist.proofs.Laws.{pick_pos, none_near, near_decides}
use Rattle.picklist.proofs.look_at.Goals as goal

pub range_min-requires : goal.range_min-requires
range_min-requires c = let C = c.requires.1 in cell_pos _ C.0 C.1 C.2

pub look_at-requires : goal.look_at-requires
look_at-requires c = (pick_pos _ c.requires.0 _ c.if-at-list.true, cell_pos _ _ _ c.requires.1.2)

pub returns-then-at-list : goal.returns-then-at-list
unfolding sight_of
returns-then-at-list c =
    let S : Parts _ _ _ = rw c.range_min.ensures at c.find-at.ensures in
    let D = near_decides _ c.requires.0 _ _ c.requires.1 S c.if-at-list.true in
    rw (← D.0, ← D.1) c.look_at.ensures

pub returns-else-at-list : goal.returns-else-at-list
unfolding sight_of sight_by
returns-else-at-list c =
    let S : Parts _ _ _ = rw c.range_min.ensures at c.find-at.ensures in
    rw (← none_near _ c.requires.0 _ _ c.requires.1 S c.if-at-list.false)
