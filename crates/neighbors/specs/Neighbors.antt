-- From points to leaves, and the cells around a corner: s2/cellid.rs, in its order of operations. Definitions only.
-- A leaf of a face has the coordinates i and j, 0 to 2 ^ 30 - 1. Where a coordinate may lie one past the face, -1 to 2 ^ 30, it is
-- written one up: k stands for k - 1.
use Rattle.std.specs.Prelude.{ℕ, ◌+◌, ◌-◌, ◌*◌, ◌/◌, ◌%◌, ◌^◌, min, Bool, cond, ◌&&◌, ◌||◌, List, [], ◌∷◌, ◌++◌, length, take, ◌==◌, nat_le, nat_lt, Float}
use Rattle.std.specs.Float.{binary64}
use Rattle.std.specs.Float.Ieee.{neg, lt, minus, of_int, to_unsigned}
use Rattle.cellid.specs.CellId.{IsCell, parent_at}
use Rattle.hilbert.specs.Curve.{face_ij, leaf_of}
use Rattle.point.specs.Floats.{◌⊕◌, ◌⊖◌, ◌⊗◌, bits, half_f, one_f, two_f}
use Rattle.point.specs.declared.Point.{Point}
use Rattle.stuv.specs.Projection.{uv_to_st, xyz_to_face_uv, face_uv_to_xyz}
use Rattle.neighbors.specs.declared.Toward.{Toward}
use Rattle.neighbors.specs.declared.Neighbors.{Neighbors}

-- 2 ^ 30, how many leaves a face has along an edge
abbrev pub max_size : Float
max_size = bits 0x41d0_0000_0000_0000

-- clamp (floor (2 ^ 30 * s) as i32, 0, 2 ^ 30 - 1): the whole part, held to the face; 0 below it and where s is no number
unfoldable pub st_to_ij : Float → ℕ
st_to_ij s = min (to_unsigned 64 (max_size ⊗ s)) (2 ^ 30 - 1)

-- the leaf that a point lies in
unfoldable pub leaf_of_point : Point → ℕ
leaf_of_point p =
    let f = xyz_to_face_uv p in
    leaf_of f.face (st_to_ij (uv_to_st f.uv.u)) (st_to_ij (uv_to_st f.uv.v))

-- 1 over 2 ^ 30, and the next float above 1
abbrev pub scale : Float
scale = bits 0x3e10_0000_0000_0000

abbrev pub limit : Float
limit = bits 0x3ff0_0000_0000_0001

unfoldable pub clamp_of : Float → Float → Float → Float
clamp_of x lo hi = cond (lt x lo) lo (cond (lt hi x) hi x)

-- the middle of the leaf k - 1 along a face that runs from -1 to 1
unfoldable pub middle_at : ℕ → Float
middle_at k = clamp_of (scale ⊗ (two_f ⊗ of_int binary64 (minus k 1) ⊕ one_f ⊖ max_size)) (neg limit) limit

-- the leaf at i - 1, j - 1 of a face, which may lie on the face beside it
unfoldable pub leaf_wrapped : ℕ → ℕ → ℕ → ℕ
leaf_wrapped face i j =
    let f = xyz_to_face_uv (face_uv_to_xyz face (middle_at i) (middle_at j)) in
    leaf_of f.face (st_to_ij (half_f ⊗ (f.uv.u ⊕ one_f))) (st_to_ij (half_f ⊗ (f.uv.v ⊕ one_f)))

-- the same, known to lie on the face itself or not
unfoldable pub leaf_beside : ℕ → ℕ → ℕ → Bool → ℕ
leaf_beside face i j same = cond same (leaf_of face (i - 1) (j - 1)) (leaf_wrapped face i j)

-- From the coordinate i to the nearer of the two cells beside its own, of twice `half` leaves a side: up where i lies in the upper half of its
-- cell. Whether that is on the same face, and the coordinate there, one up, held to one past the face.
unfoldable pub toward_of : ℕ → ℕ → Toward
toward_of i half =
    cond (i / half % 2 == 1)
    (record { same = nat_lt (i + 2 * half) (2 ^ 30); at = min (i + 2 * half) (2 ^ 30) + 1 })
    (record { same = nat_le (2 * half) i; at = (i + 1) - 2 * half })

-- the cells of a level that meet at the corner next to the middle of a cell: its own, those beside it along i and along j, and the one across,
-- which a corner of the cube has not
unfoldable pub vertex_neighbors : ℕ → ℕ → List ℕ
vertex_neighbors id level =
    let f = face_ij id in
    let a = toward_of f.i (2 ^ (29 - level)) in
    let b = toward_of f.j (2 ^ (29 - level)) in
    parent_at id level ∷
    parent_at (leaf_beside f.face a.at (f.j + 1) a.same) level ∷
    parent_at (leaf_beside f.face (f.i + 1) b.at b.same) level ∷
    cond (a.same || b.same) (parent_at (leaf_beside f.face a.at b.at (a.same && b.same)) level ∷ []) []

-- a list of at most four with its length, zeros after
abbrev pub in_four : List ℕ → Neighbors
in_four l = record { ids = take 4 (l ++ 0 ∷ 0 ∷ 0 ∷ 0 ∷ []); count = length l }

-- an id of a cell of the level L
abbrev pub AtLevel : ℕ → ℕ → Type 0
AtLevel L id = (p : ℕ) × IsCell id L p
