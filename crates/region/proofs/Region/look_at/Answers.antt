-- `region::Region::look_at` meets its contract.
use mathlib.Core.Path.{◌∙◌}
use Rattle.cellid.proofs.Laws.{cell_pos, valid_is, valid_fits}
use Rattle.sight.specs.Sight.{sight_of}
use Rattle.region.specs.Region.{area_of, in_domain, intersects_cell, contains_cell}
use Rattle.region.proofs.Laws.{cell_sight}
use Rattle.region.proofs.Region.look_at.Goals as goal

pub look_at-requires-in-Cell : goal.look_at-requires-in-Cell
unfolding area_of in_domain
look_at-requires-in-Cell c = ((valid_fits _ (rw c.in-Cell.is at c.requires.0)).0, cell_pos _ _ _ c.requires.1.2)

pub look_at-requires-in-List : goal.look_at-requires-in-List
unfolding area_of in_domain
look_at-requires-in-List c = (rw c.in-List.is at c.requires.0, c.requires.1)

pub returns-in-Cap : goal.returns-in-Cap
unfolding area_of intersects_cell contains_cell sight_of
returns-in-Cap c = rw c.in-Cap.is c.look_at.ensures

pub returns-in-Cell : goal.returns-in-Cell
unfolding area_of in_domain
returns-in-Cell c =
    let g = c.in-Cell.is in
    rw g (c.look_at-in-Cell.ensures ∙ cell_sight _ _ _ (valid_is _ (rw g at c.requires.0)) c.requires.1)

pub returns-in-List : goal.returns-in-List
unfolding area_of intersects_cell contains_cell sight_of
returns-in-List c = rw c.in-List.is c.look_at-in-List.ensures
