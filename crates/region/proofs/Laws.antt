-- What a region's tests and bound promise.
use mathlib.Core.Path.{◌≡◌, refl}
use mathlib.Core.List.{[]}
use mathlib.Core.Bool.{Bool, true, false, ◌&&◌}
use mathlib.Core.Logic.{inl}
use Rattle.std.specs.Float.{Float, nan, inf, fin, float_is_finite}
use Rattle.std.specs.Float.Ieee.{le}
use Rattle.std.specs.Float.Ieee.Scale.{finite}
use Rattle.point.specs.Vector.{is_unit}
use Rattle.point.specs.ChordAngle.{straight}
use Prim.Native.Nat.{ℕ, ◌≤◌, ◌<◌}
use native.Mathlib.Omega.{arith}
use lib.ListN.{length}
use Rattle.cellid.specs.CellId.{Cell, level_of, child_of, holds, meets}
use Rattle.cellid.proofs.Laws.{true_or}
use Rattle.cellid.proofs.Leaves.{meets_either, child_valid}
use Rattle.order.specs.Order.{All}
use Rattle.cell.specs.Cell.{cell_of, cap_bound}
use Rattle.cell.specs.declared.Cap.{Cap}
use Rattle.cap.specs.Cap.{is_empty_cap}
use Rattle.sight.specs.Sight.{sight_of, sights_of, passes, is_inside}
use Rattle.sight.proofs.Laws.{passes_by, inside_by}
use Rattle.cap.proofs.Laws as CapLaws
use Rattle.cap.proofs.BoundLaws as BoundLaws
use Rattle.picklist.specs.PickList.{picks_most, some}
use Rattle.picklist.proofs.Laws.{pick_is, list_holds_meets}
use Rattle.region.specs.Region.{Area, cap_area, cell_area, list_area, cap_in_domain, in_domain, intersects_cell, contains_cell, sight_at, bound_of}

-- ---- a cap's domain, by std's finite
is_finite_lem : (x : Float) → finite x ≡ float_is_finite x
unfolding float_is_finite
is_finite_lem nan = refl
is_finite_lem (inf s) = refl
is_finite_lem (fin s m e) = refl

pub cap_in_domain_lem : (c : Cap) → cap_in_domain c ≡ (float_is_finite c.center.x && (float_is_finite c.center.y && (float_is_finite c.center.z && (is_unit c.center && (float_is_finite c.radius && le c.radius straight)))))
unfolding cap_in_domain
cap_in_domain_lem c = rw (is_finite_lem c.center.x, is_finite_lem c.center.y, is_finite_lem c.center.z, is_finite_lem c.radius)

-- ---- containing implies intersecting
pub contains_intersects : (a : Area) (id : ℕ) → in_domain a ≡ true → Cell id → contains_cell a id ≡ true → intersects_cell a id ≡ true
unfolding contains_cell intersects_cell in_domain
contains_intersects (cap_area cap) id d c h = CapLaws.contains_intersects cap id h
contains_intersects (cell_area own) id d c h = true_or _ _ (inl h)
contains_intersects (list_area ids) id d c h = list_holds_meets ids id d c h

-- ---- one look tells both tests: what is not outside intersects, and what is inside, where that is asked, is contained
pub passes_intersects : (a : Area) (whole : Bool) (id : ℕ) → passes (sight_at a whole id) ≡ intersects_cell a id
unfolding sight_of
passes_intersects a whole id = passes_by _ _

pub inside_contains : (a : Area) (id : ℕ) → in_domain a ≡ true → Cell id → is_inside (sight_at a true id) ≡ contains_cell a id
unfolding sight_of
inside_contains a id d c = inside_by _ _ (contains_intersects a id d c)

-- a cell's look by shared leaves is that by containing: either contains the other
pub cell_sight : (own id : ℕ) (whole : Bool) → Cell own → Cell id → sight_of (meets own) (holds own) whole id ≡ sight_at (cell_area own) whole id
unfolding sight_of intersects_cell contains_cell
cell_sight own id whole c d = rw (meets_either own id c d)

pub cell_sights : (own id : ℕ) (whole : Bool) → Cell own → Cell id → level_of id < 30 → sights_of (sight_of (meets own) (holds own) whole) id ≡ sights_of (sight_at (cell_area own) whole) id
unfolding sights_of
cell_sights own id whole c d h =
    let at : (k : ℕ) → k < 4 → sight_of (meets own) (holds own) whole (child_of id k) ≡ sight_at (cell_area own) whole (child_of id k) = λ k g. cell_sight own (child_of id k) whole c (child_valid id k (child_of id k) d h g refl) in
    rw (at 0 (omega arith), at 1 (omega arith), at 2 (omega arith), at 3 (omega arith))

-- ---- an empty cap intersects and contains nothing, nor does an empty list
pub empty_none : (cap : Cap) (id : ℕ) → is_empty_cap cap ≡ true → (intersects_cell (cap_area cap) id ≡ false) × (contains_cell (cap_area cap) id ≡ false)
unfolding contains_cell intersects_cell
empty_none cap id h = (CapLaws.empty_intersects_none cap id h, CapLaws.empty_contains_none cap id h)

pub empty_list_none : (id : ℕ) → (intersects_cell (list_area []) id ≡ false) × (contains_cell (list_area []) id ≡ false)
unfolding contains_cell intersects_cell some
empty_list_none id = (refl, refl)

-- ---- the bound: valid cells, few enough for the words of a run
pub bound_fits : (a : Area) → in_domain a ≡ true → length (bound_of a) ≤ picks_most
unfolding bound_of in_domain
bound_fits (cap_area cap) h = omega (arith, BoundLaws.bound_short cap)
bound_fits (cell_area own) h = omega (arith, BoundLaws.bound_short (cap_bound (cell_of own)))
bound_fits (list_area ids) h = ((pick_is ids).0 h).0

pub bound_cells : (a : Area) → in_domain a ≡ true → All Cell (bound_of a)
unfolding bound_of in_domain
bound_cells (cap_area cap) h = BoundLaws.bound_cells cap
bound_cells (cell_area own) h = BoundLaws.bound_cells (cap_bound (cell_of own))
bound_cells (list_area ids) h = ((pick_is ids).0 h).1
