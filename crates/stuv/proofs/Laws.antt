-- A face of the cube is 0 to 5: the face of a vector, whatever its floats are, and the last arm of a match on one.
use mathlib.Core.Bool.{Bool, true, false, cond}
use Prim.Native.Nat.{ℕ, ◌+◌, ◌<◌}
use native.Mathlib.Omega.{arith}
use lib.Dec.{lit<}
use lib.Ieee.{lt}
use Rattle.point.specs.Floats.{zero_f, abs_of}
use Rattle.point.specs.declared.Point.{Point}
use Rattle.stuv.specs.Projection.{axis_of, along_axis, face_toward}

larger : (a b c : Bool) → cond a (cond b 2 1) (cond c 2 0) < 3
larger true true c = lit< tt
larger true false c = lit< tt
larger false b true = lit< tt
larger false b false = lit< tt

pub axis_lt : (r : Point) → axis_of r < 3
unfolding axis_of
axis_lt r = larger (lt (abs_of r.x) (abs_of r.y)) (lt (abs_of r.y) (abs_of r.z)) (lt (abs_of r.x) (abs_of r.z))

sided : (b : Bool) (n : ℕ) → n < 3 → cond b (n + 3) n < 6
sided true n h = omega arith
sided false n h = omega arith

-- of every vector, NaNs and infinities among its components or not
pub face_lt : (r : Point) → face_toward r < 6
unfolding face_toward
face_lt r = sided (lt (along_axis (axis_of r) r) zero_f) (axis_of r) (axis_lt r)
