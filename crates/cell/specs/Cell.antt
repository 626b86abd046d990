-- Cells as pieces of the sphere, cell.rs: the bounds in (u, v), the four corners and edges, the test for a point, and the cap around a cell.
-- Every float step is the Rust's, in its order, each rounded once. Definitions only.
use Rattle.std.specs.Prelude.{ℕ, zero, suc, ◌+◌, ◌-◌, ◌*◌, ◌/◌, ◌^◌, Bool, false, cond, ◌&&◌, List, [], ◌∷◌, pos, Float, Option, Some, None}
use Rattle.std.specs.Float.{binary64}
use Rattle.std.specs.Float.Ieee.{neg, lt, le, ne, of_int}
use Rattle.cellid.specs.CellId.{level_of}
use Rattle.hilbert.specs.Curve.{face_ij}
use Rattle.point.specs.Floats.{◌⊕◌, ◌⊖◌, ◌⊗◌, ◌⊘◌, bits, zero_f, half_f, one_f}
use Rattle.point.specs.Vector.{mul_of, normalize_of}
use Rattle.point.specs.ChordAngle.{chord_angle}
use Rattle.point.specs.declared.Point.{Point}
use Rattle.stuv.specs.Projection.{st_to_uv, face_uv_to_xyz, face_xyz_to_uv, u_norm, v_norm}
use Rattle.stuv.specs.declared.Uv.{Uv}
use Rattle.cell.specs.declared.Interval.{Interval}
use Rattle.cell.specs.declared.Rect.{Rect}
use Rattle.cell.specs.declared.Cell.{Cell}
use Rattle.cell.specs.declared.Cap.{Cap}

-- ---- the bounds in (u, v)

-- a line of the leaves' grid, 0 to 2 ^ 30, in (s, t), and in (u, v)
unfoldable pub ij_to_st_min : ℕ → Float
ij_to_st_min i = of_int binary64 (pos i) ⊘ bits 0x41d0_0000_0000_0000

unfoldable pub line_at : ℕ → Float
line_at i = st_to_uv (ij_to_st_min i)

-- where the cell of a level that has the leaf i in it begins, 2 ^ (30 - level) leaves wide
abbrev pub first_at : ℕ → ℕ → ℕ
first_at i level = i / 2 ^ (30 - level) * 2 ^ (30 - level)

unfoldable pub span_at : ℕ → ℕ → Interval
span_at i level = record { lo = line_at (first_at i level); hi = line_at (first_at i level + 2 ^ (30 - level)) }

unfoldable pub bound_uv : ℕ → ℕ → ℕ → Rect
bound_uv i j level = record { x = span_at i level; y = span_at j level }

-- the cell of an id
unfoldable pub cell_of : ℕ → Cell
cell_of id = record { face = (face_ij id).face; uv = bound_uv (face_ij id).i (face_ij id).j (level_of id) }

-- ---- corners and edges

-- the unit vector to a place of a face
unfoldable pub unit_at : ℕ → Float → Float → Point
unit_at face u v = normalize_of (face_uv_to_xyz face u v)

-- the k-th of four
abbrev pub at_corner : {A : Type 0} → ℕ → A → A → A → A → A
at_corner zero a b c d = a
at_corner (suc zero) a b c d = b
at_corner (suc (suc zero)) a b c d = c
at_corner (suc (suc (suc n))) a b c d = d

-- the k-th corner: lower left, lower right, upper right, upper left in (u, v)
unfoldable pub vertex_at : Cell → ℕ → Point
vertex_at c k =
    at_corner k
    (unit_at c.face c.uv.x.lo c.uv.y.lo)
    (unit_at c.face c.uv.x.hi c.uv.y.lo)
    (unit_at c.face c.uv.x.hi c.uv.y.hi)
    (unit_at c.face c.uv.x.lo c.uv.y.hi)

-- the k-th corner of an id's cell, by itself
abbrev pub vertex_of : ℕ → ℕ → Point
vertex_of id k = vertex_at (cell_of id) k

unfoldable pub vertices_of : Cell → List Point
vertices_of c = vertex_at c 0 ∷ vertex_at c 1 ∷ vertex_at c 2 ∷ vertex_at c 3 ∷ []

-- the inward normal of the edge from the k-th corner to the next
unfoldable pub edge_at : Cell → ℕ → Point
edge_at c k =
    at_corner k
    (normalize_of (v_norm c.face c.uv.y.lo))
    (normalize_of (u_norm c.face c.uv.x.hi))
    (normalize_of (mul_of (v_norm c.face c.uv.y.hi) (neg one_f)))
    (normalize_of (mul_of (u_norm c.face c.uv.x.lo) (neg one_f)))

-- ---- a point in a cell

-- DBL_EPSILON, 2 ^ -52
abbrev pub margin : Float
margin = bits 0x3cb0_0000_0000_0000

-- p lies in the closed interval; and the interval widened by the margin, where an empty one stays as it is
unfoldable pub in_interval : Interval → Float → Bool
in_interval i p = le i.lo p && le p i.hi

unfoldable pub expanded_of : Interval → Interval
expanded_of i = cond (lt i.hi i.lo) i (record { lo = i.lo ⊖ margin; hi = i.hi ⊕ margin })

unfoldable pub on_side : Rect → Option Uv → Bool
on_side b None = false
on_side b (Some p) = in_interval (expanded_of b.x) p.u && in_interval (expanded_of b.y) p.v

unfoldable pub holds_point : Cell → Point → Bool
holds_point c p = on_side c.uv (face_xyz_to_uv c.face p)

-- ---- the cap around a cell: a centre, and the square of the chord to its edge

-- Rust's `max`: of a number and no number, the number
unfoldable pub max_of : Float → Float → Float
max_of a b = cond (ne a a) b (cond (lt a b) b a)

-- the cap grown to reach p; an empty one becomes the point
unfoldable pub add_point : Cap → Point → Cap
add_point c p =
    cond (lt c.radius zero_f)
    (record { center = p; radius = zero_f })
    (record { center = c.center; radius = max_of (chord_angle c.center p) c.radius })

abbrev pub center_of : Interval → Float
center_of i = half_f ⊗ (i.lo ⊕ i.hi)

-- around the middle of the bounds in (u, v), grown to each corner in turn
unfoldable pub middle_of : Cell → Point
middle_of c = unit_at c.face (center_of c.uv.x) (center_of c.uv.y)

unfoldable pub cap_bound : Cell → Cap
cap_bound c =
    add_point (add_point (add_point (add_point (record { center = middle_of c; radius = zero_f }) (vertex_at c 0)) (vertex_at c 1)) (vertex_at c 2)) (vertex_at c 3)
