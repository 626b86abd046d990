-- The cube's faces, and the coordinates (s, t) and (u, v) on them: s2/stuv.rs, in its order of operations. Definitions only.
-- A face is 0 to 5; a function of a face is a row of six, and a face over 5 is barred where it is called.
use Rattle.std.specs.Prelude.{ℕ, zero, suc, ◌+◌, Bool, cond, Float, Option, Some, None}
use Rattle.std.specs.Float.{binary64}
use Rattle.std.specs.Float.Ieee.{neg, lt, le}
use Rattle.root.specs.Root.{root}
use Rattle.point.specs.Floats.{◌⊕◌, ◌⊖◌, ◌⊗◌, ◌⊘◌, zero_f, half_f, one_f, three_f, four_f, abs_of}
use Rattle.point.specs.declared.Point.{Point}
use Rattle.stuv.specs.declared.Uv.{Uv}
use Rattle.stuv.specs.declared.FaceUv.{FaceUv}

unfoldable pub st_to_uv : Float → Float
st_to_uv s =
    cond (le half_f s)
    ((one_f ⊘ three_f) ⊗ (four_f ⊗ s ⊗ s ⊖ one_f))
    ((one_f ⊘ three_f) ⊗ (one_f ⊖ four_f ⊗ (one_f ⊖ s) ⊗ (one_f ⊖ s)))

unfoldable pub uv_to_st : Float → Float
uv_to_st u =
    cond (le zero_f u)
    (half_f ⊗ root binary64 (one_f ⊕ three_f ⊗ u))
    (one_f ⊖ half_f ⊗ root binary64 (one_f ⊖ three_f ⊗ u))

-- the axis of the component that is largest in size: a later one only where it is larger, and nothing is larger than a NaN
unfoldable pub axis_of : Point → ℕ
axis_of r =
    cond (lt (abs_of r.x) (abs_of r.y))
    (cond (lt (abs_of r.y) (abs_of r.z)) 2 1)
    (cond (lt (abs_of r.x) (abs_of r.z)) 2 0)

unfoldable pub along_axis : ℕ → Point → Float
along_axis zero r = r.x
along_axis (suc zero) r = r.y
along_axis (suc (suc n)) r = r.z

-- the face that a vector points to: 3 more than the axis where the component is negative
unfoldable pub face_toward : Point → ℕ
face_toward r = cond (lt (along_axis (axis_of r) r) zero_f) (axis_of r + 3) (axis_of r)

-- the entry of a face in a row of six
abbrev pub at_face : {A : Type 0} → ℕ → A → A → A → A → A → A → A
at_face zero a b c d e f = a
at_face (suc zero) a b c d e f = b
at_face (suc (suc zero)) a b c d e f = c
at_face (suc (suc (suc zero))) a b c d e f = d
at_face (suc (suc (suc (suc zero)))) a b c d e f = e
at_face (suc (suc (suc (suc (suc n))))) a b c d e f = f

abbrev uv : Float → Float → Uv
uv u v = record { u = u; v = v }

abbrev vector : Float → Float → Float → Point
vector x y z = record { x = x; y = y; z = z }

-- where the line through r meets the face's plane
unfoldable pub uv_at : ℕ → Point → Uv
uv_at face r =
    at_face face
    (uv (r.y ⊘ r.x) (r.z ⊘ r.x))
    (uv (neg r.x ⊘ r.y) (r.z ⊘ r.y))
    (uv (neg r.x ⊘ r.z) (neg r.y ⊘ r.z))
    (uv (r.z ⊘ r.x) (r.y ⊘ r.x))
    (uv (r.z ⊘ r.y) (neg r.x ⊘ r.y))
    (uv (neg r.y ⊘ r.z) (neg r.x ⊘ r.z))

unfoldable pub xyz_to_face_uv : Point → FaceUv
xyz_to_face_uv r = record { face = face_toward r; uv = uv_at (face_toward r) r }

unfoldable pub face_uv_to_xyz : ℕ → Float → Float → Point
face_uv_to_xyz face u v =
    at_face face
    (vector one_f u v)
    (vector (neg u) one_f v)
    (vector (neg u) (neg v) one_f)
    (vector (neg one_f) (neg v) (neg u))
    (vector v (neg one_f) (neg u))
    (vector v u (neg one_f))

-- p is not on the face's side of the origin
unfoldable pub behind : ℕ → Point → Bool
behind face p =
    at_face face
    (le p.x zero_f)
    (le p.y zero_f)
    (le p.z zero_f)
    (le zero_f p.x)
    (le zero_f p.y)
    (le zero_f p.z)

unfoldable pub face_xyz_to_uv : ℕ → Point → Option Uv
face_xyz_to_uv face p = cond (behind face p) None (Some (uv_at face p))

-- the normals of the lines of a constant u, and of a constant v, on a face
unfoldable pub u_norm : ℕ → Float → Point
u_norm face u =
    at_face face
    (vector u (neg one_f) zero_f)
    (vector one_f u zero_f)
    (vector one_f zero_f u)
    (vector (neg u) zero_f one_f)
    (vector zero_f (neg u) one_f)
    (vector zero_f (neg one_f) (neg u))

unfoldable pub v_norm : ℕ → Float → Point
v_norm face v =
    at_face face
    (vector (neg v) zero_f one_f)
    (vector zero_f (neg v) one_f)
    (vector zero_f (neg one_f) (neg v))
    (vector v (neg one_f) zero_f)
    (vector one_f v zero_f)
    (vector one_f zero_f v)
