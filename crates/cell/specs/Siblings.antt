-- The four children of a cell have six lines and nine corners between them. Definitions only.
use Rattle.std.specs.Prelude.{ℕ, zero, suc, ◌+◌, ◌-◌, ◌/◌, ◌%◌, ◌^◌, List, [], ◌∷◌, Float}
use Rattle.std.specs.Float.{binary64}
use Rattle.root.specs.Root.{root}
use Rattle.cellid.specs.CellId.{level_of}
use Rattle.hilbert.specs.Curve.{face_ij}
use Rattle.point.specs.Floats.{◌⊕◌, ◌⊗◌, ◌⊘◌, one_f}
use Rattle.point.specs.declared.Point.{Point}
use Rattle.cell.specs.Cell.{first_at, line_at, unit_at}
use Rattle.cell.specs.declared.Interval.{Interval}
use Rattle.cell.specs.declared.Rect.{Rect}
use Rattle.cell.specs.declared.Lines.{Lines}
use Rattle.cell.specs.declared.Quarters.{Quarters}
use Rattle.cell.specs.declared.Cell.{Cell}

-- the first, the middle and the last line of the cell of a level that has the leaf i in it
unfoldable pub lines_at : ℕ → ℕ → Lines
lines_at i level = record {
  a = line_at (first_at i level);
  b = line_at (first_at i level + 2 ^ (29 - level));
  c = line_at (first_at i level + 2 ^ (30 - level));
}

unfoldable pub quarters_of : ℕ → Quarters
quarters_of id = record {
  face = (face_ij id).face;
  orientation = (face_ij id).orientation;
  x = lines_at (face_ij id).i (level_of id);
  y = lines_at (face_ij id).j (level_of id);
}

-- the lower half, 0, or the upper one
unfoldable pub half_of : Lines → ℕ → Interval
half_of l zero = record { lo = l.a; hi = l.b }
half_of l (suc n) = record { lo = l.b; hi = l.c }

abbrev pub cell_between : ℕ → Interval → Interval → Cell
cell_between face x y = record { face = face; uv = record { x = x; y = y } }

-- the quarter 0 to 3: "in each entry the higher bit belongs to i, the lower to j"
unfoldable pub quarter_at : Quarters → ℕ → Cell
quarter_at q n = cell_between q.face (half_of q.x (n / 2)) (half_of q.y (n % 2))

-- the corner that all four share
abbrev pub shared_corner : Quarters → Point
shared_corner q = unit_at q.face q.x.b q.y.b

-- the nine corners: the one on the i-th line of u and the j-th of v is at 3 * i + j
unfoldable pub corners_of : Quarters → List Point
corners_of q =
    unit_at q.face q.x.a q.y.a
    ∷ unit_at q.face q.x.a q.y.b
    ∷ unit_at q.face q.x.a q.y.c
    ∷ unit_at q.face q.x.b q.y.a
    ∷ unit_at q.face q.x.b q.y.b
    ∷ unit_at q.face q.x.b q.y.c
    ∷ unit_at q.face q.x.c q.y.a
    ∷ unit_at q.face q.x.c q.y.b
    ∷ unit_at q.face q.x.c q.y.c
    ∷ []

-- ---- the lengths of the edges' normals

-- what brings the normals of the line w, of u or of v, to unit length
unfoldable pub scale_of : Float → Float
scale_of w = one_f ⊘ root binary64 (one_f ⊕ w ⊗ w)

unfoldable pub scales_of : Lines → Lines
scales_of l = record { a = scale_of l.a; b = scale_of l.b; c = scale_of l.c }

unfoldable pub scaled_of : Quarters → Quarters
scaled_of q = record { face = q.face; orientation = q.orientation; x = scales_of q.x; y = scales_of q.y }

-- of the four lines of a cell
unfoldable pub cell_scales : Cell → Rect
cell_scales c = record {
  x = record { lo = scale_of c.uv.x.lo; hi = scale_of c.uv.x.hi };
  y = record { lo = scale_of c.uv.y.lo; hi = scale_of c.uv.y.hi };
}
