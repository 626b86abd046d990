-- `cap::look_children` meets its contract.
use Rattle.cell.proofs.Siblings.{quarters_in}
use Rattle.cap.proofs.Siblings.{in_row, sights_turned}
use Rattle.cap.proofs.look_children.Goals as goal

pub look_quarters-l-requires : goal.look_quarters-l-requires
look_quarters-l-requires c = rw c.quarters_of-q.ensures (quarters_in _ c.requires.0).0

pub by_place-requires : goal.by_place-requires
by_place-requires c = let r = in_row _ _ _ _ _ c.requires.0 c.quarters_of-q.ensures c.look_quarters-l.ensures in (r.0, r.1)

pub by_place-requires-2 : goal.by_place-requires-2
by_place-requires-2 c = let r = in_row _ _ _ _ _ c.requires.0 c.quarters_of-q.ensures c.look_quarters-l.ensures in (r.0, r.2)

pub returns : goal.returns
returns c =
    let z = c.requires in
    sights_turned _ _ _ _ _ _ z.0 z.1 c.quarters_of-q.ensures c.look_quarters-l.ensures c.by_place.ensures c.by_place-2.ensures
