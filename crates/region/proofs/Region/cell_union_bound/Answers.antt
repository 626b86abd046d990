-- `region::Region::cell_union_bound` meets its contract.
use native.Mathlib.Omega.{arith}
use Rattle.cellid.proofs.Laws.{valid_is}
use Rattle.cap.proofs.Laws.{face_of_lem}
use Rattle.picklist.proofs.Laws.{pick_is}
use Rattle.region.specs.Region.{area_of, in_domain, bound_of}
use Rattle.region.proofs.Region.cell_union_bound.Goals as goal

pub from_id-requires : goal.from_id-requires
unfolding area_of in_domain
from_id-requires c = valid_is _ (rw c.in-Cell.is at c.requires.0)

pub cap_bound-requires : goal.cap_bound-requires
unfolding area_of in_domain
cap_bound-requires c = face_of_lem _ _ (valid_is _ (rw c.in-Cell.is at c.requires.0)) c.from_id.ensures

pub lay_ids-requires : goal.lay_ids-requires
unfolding area_of in_domain
lay_ids-requires c = omega (arith, c.requires.1, ((pick_is _).0 (rw c.in-List.is at c.requires.0)).0)

pub returns-in-Cap : goal.returns-in-Cap
unfolding area_of bound_of
returns-in-Cap c = rw c.in-Cap.is c.lay_cap_bound.ensures

pub returns-in-Cell : goal.returns-in-Cell
unfolding area_of bound_of
returns-in-Cell c = rw (c.in-Cell.is, ← c.from_id.ensures, ← c.cap_bound.ensures) c.lay_cap_bound-in-Cell.ensures

pub returns-in-List : goal.returns-in-List
unfolding area_of bound_of
returns-in-List c = rw c.in-List.is c.lay_ids.ensures
