-- A region is a cap, a cell or a lent list of cells, and nothing else: its domain, its two tests, the one look that tells both, and its bound. Definitions
-- only; quoted lines are the words of papers 01 and 02, a.
use Rattle.std.specs.Prelude.{ℕ, Bool, ◌&&◌, ◌||◌, List}
use Rattle.std.specs.Float.Ieee.{le}
use Rattle.std.specs.Float.Ieee.Scale.{finite}
use Rattle.cellid.specs.CellId.{valid_id, holds}
use Rattle.point.specs.Vector.{is_unit}
use Rattle.point.specs.ChordAngle.{straight}
use Rattle.cell.specs.Cell.{cell_of, cap_bound}
use Rattle.cell.specs.declared.Cap.{Cap}
use Rattle.cap.specs.Cap.{cap_intersects, cap_contains}
use Rattle.cap.specs.Bound.{union_bound}
use Rattle.picklist.specs.PickList.{is_pick_list, list_meets, list_holds}
use Rattle.sight.specs.Sight.{sight_of}
use Rattle.sight.specs.declared.Sight.{Sight}
use Rattle.region.specs.declared.Region.{Region}

-- ---- what is asked about, by value: of a list the ids that are lent

pub data Area : Type 0 where
  cap_area : Cap → Area
  cell_area : ℕ → Area
  list_area : List ℕ → Area

unfoldable pub area_of : Region → Area
area_of (Region.Cap c) = cap_area c
area_of (Region.Cell own) = cell_area own
area_of (Region.List list) = list_area list.now

-- ---- its domain

-- "a cap's centre is finite and meets the crate's is_unit; its radius is finite and at most 4 (negative means empty, as in the crate; minus zero is zero)"
unfoldable pub cap_in_domain : Cap → Bool
cap_in_domain c =
    finite c.center.x
    && (finite c.center.y
    && (finite c.center.z && (is_unit c.center && (finite c.radius && le c.radius straight))))

-- "a cell is a valid id"; a list has "0 to 4,096 ids, valid, ascending, no cell inside another"
unfoldable pub in_domain : Area → Bool
in_domain (cap_area c) = cap_in_domain c
in_domain (cell_area own) = valid_id own
in_domain (list_area ids) = is_pick_list ids

-- ---- its tests and its bound

-- a cell region "intersects a cell if either contains the other", a list "if some listed cell and the cell share a leaf"
unfoldable pub intersects_cell : Area → ℕ → Bool
intersects_cell (cap_area c) id = cap_intersects c id
intersects_cell (cell_area own) id = holds own id || holds id own
intersects_cell (list_area ids) id = list_meets ids id

-- a cell region "contains a cell that is itself or lies under it", a list "contains a cell if some listed cell does"
unfoldable pub contains_cell : Area → ℕ → Bool
contains_cell (cap_area c) id = cap_contains c id
contains_cell (cell_area own) id = holds own id
contains_cell (list_area ids) id = list_holds ids id

-- what a cell is to the region, by both; where `whole` is false only outside or not
abbrev pub sight_at : Area → Bool → ℕ → Sight
sight_at a = sight_of (intersects_cell a) (contains_cell a)

-- the ids of the region's bound: of a cap one to six, in the Rust's order; that of a cell is that of its cap_bound; of a list "the list itself"
unfoldable pub bound_of : Area → List ℕ
bound_of (cap_area c) = union_bound c
bound_of (cell_area own) = union_bound (cap_bound (cell_of own))
bound_of (list_area ids) = ids
