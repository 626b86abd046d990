-- `region::Region::look_children` meets its contract.
use mathlib.Core.Path.{◌∙◌}
use Rattle.cellid.proofs.Laws.{valid_is, valid_fits}
use Rattle.sight.specs.Sight.{sights_of, sight_of}
use Rattle.region.specs.Region.{area_of, in_domain, intersects_cell, contains_cell}
use Rattle.region.proofs.Laws.{cell_sights}
use Rattle.region.proofs.Region.look_children.Goals as goal

pub look_children-requires-in-Cell : goal.look_children-requires-in-Cell
unfolding area_of in_domain
look_children-requires-in-Cell c = ((valid_fits _ (rw c.in-Cell.is at c.requires.0)).0, c.requires.1, c.requires.2)

pub look_children-requires-in-List : goal.look_children-requires-in-List
unfolding area_of in_domain
look_children-requires-in-List c = (rw c.in-List.is at c.requires.0, c.requires.1, c.requires.2)

pub returns-in-Cap : goal.returns-in-Cap
unfolding area_of intersects_cell contains_cell sight_of sights_of
returns-in-Cap c = rw c.in-Cap.is c.look_children.ensures

pub returns-in-Cell : goal.returns-in-Cell
unfolding area_of in_domain
returns-in-Cell c =
    let g = c.in-Cell.is in
    rw g (c.look_children-in-Cell.ensures ∙ cell_sights _ _ _ (valid_is _ (rw g at c.requires.0)) c.requires.1 c.requires.2)

pub returns-in-List : goal.returns-in-List
unfolding area_of intersects_cell contains_cell sight_of sights_of
returns-in-List c = rw c.in-List.is c.look_children-in-List.ensures
