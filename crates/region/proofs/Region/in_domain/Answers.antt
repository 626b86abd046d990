-- `region::Region::in_domain` meets its contract.
use Rattle.region.specs.Region.{area_of, in_domain}
use Rattle.region.proofs.Region.in_domain.Goals as goal

pub returns-in-Cap : goal.returns-in-Cap
unfolding area_of in_domain
returns-in-Cap c = rw c.in-Cap.is c.cap_in_domain.ensures

pub returns-in-Cell : goal.returns-in-Cell
unfolding area_of in_domain
returns-in-Cell c = rw c.in-Cell.is c.is_valid.ensures

pub returns-in-List : goal.returns-in-List
unfolding area_of in_domain
returns-in-List c = rw c.in-List.is c.is_pick_list.ensures
