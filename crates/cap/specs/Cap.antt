-- The tests of caps, cap.rs: "a contained vertex means intersects; otherwise a radius of RIGHT or more answers no; empty answers no. Containment needs all
-- four vertices and the complement's edge test." Every float step is the Rust's, in its order, each rounded once. Definitions only.
use Rattle.std.specs.Prelude.{ℕ, zero, suc, ◌+◌, ◌-◌, ◌%◌, Bool, true, false, cond, not, ◌&&◌, ◌||◌, Float, Option, Some, None}
use Rattle.std.specs.Float.Ieee.{neg, lt, le, eq}
use Rattle.point.specs.Floats.{◌⊖◌, ◌⊗◌, zero_f, one_f}
use Rattle.point.specs.Vector.{mul_of, dot_of, cross_of, norm2_of}
use Rattle.point.specs.ChordAngle.{negative, right, straight, chord_angle, sin2_of}
use Rattle.point.specs.declared.Point.{Point}
use Rattle.cell.specs.Cell.{cell_of, vertex_at, edge_at, holds_point}
use Rattle.cell.specs.declared.Cell.{Cell}
use Rattle.cell.specs.declared.Cap.{Cap}

-- a negative radius means empty, and the half turn full
unfoldable pub is_empty_cap : Cap → Bool
is_empty_cap c = lt c.radius zero_f

unfoldable pub is_full_cap : Cap → Bool
is_full_cap c = eq c.radius straight

-- the point is at most the radius away
unfoldable pub cap_holds : Cap → Point → Bool
cap_holds c p = le (chord_angle c.center p) c.radius

-- around the x axis, as the Rust has it, nothing and the whole sphere
abbrev pub cap_around : Float → Cap
cap_around r = record { center = record { x = one_f; y = zero_f; z = zero_f }; radius = r }

-- the other side: full gives empty, empty gives full, any other the opposite centre and 4 - r
unfoldable pub complement_of : Cap → Cap
complement_of c =
    cond (is_full_cap c)
    (cap_around negative)
    (cond (is_empty_cap c) (cap_around straight) (record { center = mul_of c.center (neg one_f); radius = straight ⊖ c.radius }))

-- ---- the edge test

-- what one edge says, from its inward normal and its two ends: on to the next where the centre lies on its inner side; no where the cap doesn't reach its
-- great circle; yes where the circle's nearest point to the centre lies between the ends
unfoldable pub edge_says : Point → Float → Point → Point → Point → Option Bool
edge_says center sin2 edge a b =
    let d = dot_of center edge in
    let dir = cross_of edge center in
    cond (lt zero_f d)
    None
    (cond (lt (sin2 ⊗ norm2_of edge) (d ⊗ d))
    (Some false)
    (cond (lt (dot_of dir a) zero_f && lt zero_f (dot_of dir b)) (Some true) None))

abbrev pub decide : Option Bool → Bool → Bool
decide None rest = rest
decide (Some answer) rest = answer

-- the last n of the four edges, in turn
unfoldable pub edges_say : Point → Float → Cell → ℕ → Bool
edges_say center sin2 c zero = false
edges_say center sin2 c (suc n) =
    let k = 3 - n in
    decide (edge_says center sin2 (edge_at c k) (vertex_at c k) (vertex_at c ((k + 1) % 4))) (edges_say center sin2 c n)

-- the cap has a point of the cell in it, where it has none of the corners
unfoldable pub touches : Cap → Cell → Bool
touches cap c =
    cond (le right cap.radius) false (cond (is_empty_cap cap) false (cond (holds_point c cap.center) true (edges_say cap.center (sin2_of cap.radius) c 4)))

-- ---- the two tests

unfoldable pub meets_cell : Cap → Cell → Bool
meets_cell cap c =
    cap_holds cap (vertex_at c 0) || (cap_holds cap (vertex_at c 1) || (cap_holds cap (vertex_at c 2) || (cap_holds cap (vertex_at c 3) || touches cap c)))

unfoldable pub holds_cell : Cap → Cell → Bool
holds_cell cap c =
    cap_holds cap (vertex_at c 0)
    && (cap_holds cap (vertex_at c 1) && (cap_holds cap (vertex_at c 2) && (cap_holds cap (vertex_at c 3) && not (touches (complement_of cap) c))))

-- of an id's cell
unfoldable pub cap_intersects : Cap → ℕ → Bool
cap_intersects cap id = meets_cell cap (cell_of id)

unfoldable pub cap_contains : Cap → ℕ → Bool
cap_contains cap id = holds_cell cap (cell_of id)
