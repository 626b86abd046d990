-- What the edges' normals mean, before they are brought to unit length: each is at right angles to both ends of its edge, and points to the cell's side of it.
use mathlib.Core.Path.{◌≡◌, refl}
use mathlib.Core.Bool.{true}
use Prim.Native.Nat.{ℕ, zero, suc, ◌+◌, ◌%◌, ◌<◌}
use native.Mathlib.Omega.{arith}
use lib.Ieee.{Float, neg, lt, eq}
use Rattle.cellid.specs.CellId as CellId
use Rattle.hilbert.specs.Curve.{face_ij}
use Rattle.hilbert.proofs.Laws.{face_ij_in}
use Rattle.point.specs.Floats.{zero_f, one_f}
use Rattle.point.specs.Vector.{dot_of, mul_of, normalize_of}
use Rattle.point.specs.declared.Point.{Point}
use Rattle.point.proofs.Numbers.{Number, minus_self}
use Rattle.stuv.specs.Projection.{face_uv_to_xyz, u_norm, v_norm}
use Rattle.stuv.proofs.Bridges.{u_normal, v_normal, u_back_side, v_back_side, u_inside, v_inside, u_back_inside, v_back_inside}
use Rattle.cell.specs.Cell.{bound_uv, cell_of, at_corner, unit_at, vertex_at, edge_at}
use Rattle.cell.specs.declared.Cell.{Cell}
use Rattle.cellid.proofs.Laws.{level_le}
use Rattle.cell.proofs.Grid.{span_finite}

-- the k-th corner and the k-th edge's normal, of any length
abbrev pub corner_vector : Cell → ℕ → Point
corner_vector c k =
    at_corner k
    (face_uv_to_xyz c.face c.uv.x.lo c.uv.y.lo)
    (face_uv_to_xyz c.face c.uv.x.hi c.uv.y.lo)
    (face_uv_to_xyz c.face c.uv.x.hi c.uv.y.hi)
    (face_uv_to_xyz c.face c.uv.x.lo c.uv.y.hi)

abbrev pub normal_vector : Cell → ℕ → Point
normal_vector c k =
    at_corner k
    (v_norm c.face c.uv.y.lo)
    (u_norm c.face c.uv.x.hi)
    (mul_of (v_norm c.face c.uv.y.hi) (neg one_f))
    (mul_of (u_norm c.face c.uv.x.lo) (neg one_f))

-- brought to unit length they are the cell's corners and its edges' normals
pub corner_unit : (c : Cell) (k : ℕ) → vertex_at c k ≡ normalize_of (corner_vector c k)
unfolding vertex_at unit_at
corner_unit c zero = refl
corner_unit c (suc zero) = refl
corner_unit c (suc (suc zero)) = refl
corner_unit c (suc (suc (suc k))) = refl

pub normal_unit : (c : Cell) (k : ℕ) → edge_at c k ≡ normalize_of (normal_vector c k)
unfolding edge_at
normal_unit c zero = refl
normal_unit c (suc zero) = refl
normal_unit c (suc (suc zero)) = refl
normal_unit c (suc (suc (suc k))) = refl

-- the four lines are finite values of the format
pub record Bounded (c : Cell) : Type 0 where
  pub left : Number c.uv.x.lo
  pub right : Number c.uv.x.hi
  pub lower : Number c.uv.y.lo
  pub upper : Number c.uv.y.hi

module _ (c : Cell) (b : Bounded c) where
  -- an edge's normal is at right angles to its first end
  pub first_end : (k : ℕ) → k < 4 → eq (dot_of (normal_vector c k) (corner_vector c k)) zero_f ≡ true
  first_end zero h = v_normal c.face c.uv.x.lo c.uv.y.lo b.left.0 b.lower
  first_end (suc zero) h = u_normal c.face c.uv.x.hi c.uv.y.lo b.right b.lower.0
  first_end (suc (suc zero)) h =
      rw (minus_self c.uv.y.hi b.upper.0) at (v_back_side c.face c.uv.y.hi c.uv.x.hi c.uv.y.hi b.upper b.right.0 b.upper)
  first_end (suc (suc (suc zero))) h =
      rw (minus_self c.uv.x.lo b.left.0) at (u_back_side c.face c.uv.x.lo c.uv.x.lo c.uv.y.hi b.left b.left b.upper.0)
  first_end (suc (suc (suc (suc k)))) h = absurd (omega arith)

  -- and to its second
  pub second_end : (k : ℕ) → k < 4 → eq (dot_of (normal_vector c k) (corner_vector c ((k + 1) % 4))) zero_f ≡ true
  second_end zero h = v_normal c.face c.uv.x.hi c.uv.y.lo b.right.0 b.lower
  second_end (suc zero) h = u_normal c.face c.uv.x.hi c.uv.y.hi b.right b.upper.0
  second_end (suc (suc zero)) h =
      rw (minus_self c.uv.y.hi b.upper.0) at (v_back_side c.face c.uv.y.hi c.uv.x.lo c.uv.y.hi b.upper b.left.0 b.upper)
  second_end (suc (suc (suc zero))) h =
      rw (minus_self c.uv.x.lo b.left.0) at (u_back_side c.face c.uv.x.lo c.uv.x.lo c.uv.y.lo b.left b.left b.lower.0)
  second_end (suc (suc (suc (suc k)))) h = absurd (omega arith)

  -- a place of the face lies on the side to which an edge's normal points exactly where it lies on the cell's side of that edge's line
  pub inner_side : (k : ℕ) (u v : Float) → k < 4 → Number u → Number v
      → lt zero_f (dot_of (normal_vector c k) (face_uv_to_xyz c.face u v))
      ≡ at_corner k (lt c.uv.y.lo v) (lt u c.uv.x.hi) (lt v c.uv.y.hi) (lt c.uv.x.lo u)
  inner_side zero u v h p q = v_inside c.face c.uv.y.lo u v b.lower p.0 q
  inner_side (suc zero) u v h p q = u_inside c.face c.uv.x.hi u v b.right p q.0
  inner_side (suc (suc zero)) u v h p q = v_back_inside c.face c.uv.y.hi u v b.upper p.0 q
  inner_side (suc (suc (suc zero))) u v h p q = u_back_inside c.face c.uv.x.lo u v b.left p q.0
  inner_side (suc (suc (suc (suc k)))) u v h p q = absurd (omega arith)

-- every id's cell has such lines, so all of this holds of it
pub id_bounded : (id : ℕ) → CellId.Cell id → Bounded (cell_of id)
unfolding cell_of bound_uv
id_bounded id c =
    let f = face_ij_in id c in
    let x = span_finite (face_ij id).i (CellId.level_of id) (level_le id) f.i in
    let y = span_finite (face_ij id).j (CellId.level_of id) (level_le id) f.j in
    record { left = x.0; right = x.1; lower = y.0; upper = y.1 }
