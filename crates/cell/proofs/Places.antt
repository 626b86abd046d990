-- What the test for a point means: of a place of the cell's own face it asks whether u and v lie between the cell's lines, each moved outward by the margin, so
-- that it holds of every place between the lines themselves, the four corners among them.
use mathlib.Core.Path.{◌≡◌, refl}
use mathlib.Core.Bool.{Bool, true, false, cond, ◌&&◌}
use Prim.Native.Nat.{ℕ, zero, suc, ◌<◌}
use native.Mathlib.Omega.{arith}
use denote.Floats.{passes}
use lib.Dec.{T}
use lib.Ieee.{Float, binary64, lt, le, fits, of_bits}
use lib.Ieee.Bits.{is_true}
use lib.Ieee.Scale.{finite}
use Rattle.cellid.specs.CellId as CellId
use Rattle.hilbert.specs.Curve.{face_ij}
use Rattle.hilbert.proofs.Laws.{face_ij_in}
use Rattle.point.specs.Floats.{◌⊕◌, ◌⊖◌}
use Rattle.point.proofs.Signs.{Plus}
use Rattle.point.proofs.Numbers.{Number}
use Rattle.point.proofs.Order.{le_trans, le_self, difference_le, sum_ge}
use Rattle.stuv.specs.Projection.{face_uv_to_xyz}
use Rattle.stuv.proofs.Bridges.{side_back}
use Rattle.cell.specs.Cell.{bound_uv, cell_of, margin, in_interval, expanded_of, on_side, holds_point}
use Rattle.cell.specs.declared.Interval.{Interval}
use Rattle.cell.specs.declared.Rect.{Rect}
use Rattle.cell.specs.declared.Cell.{Cell}
use Rattle.cellid.proofs.Laws.{level_le}
use Rattle.cell.proofs.Grid.{span_rises}
use Rattle.cell.proofs.Inward.{Bounded, id_bounded, corner_vector}

-- the test of a place of the cell's face
pub place_test : (c : Cell) (u v : Float) → T (fits binary64 u) → T (fits binary64 v)
    → holds_point c (face_uv_to_xyz c.face u v) ≡ (in_interval (expanded_of c.uv.x) u && in_interval (expanded_of c.uv.y) v)
unfolding holds_point on_side
place_test c u v p q = rw (side_back c.face u v p q)

margin_finite : T (finite margin)
unfolding of_bits
margin_finite = tt

margin_plus : Plus margin
unfolding of_bits
margin_plus = refl

-- what lies between two ends lies between them when they are moved outward
expanded_holds : (i : Interval) (u : Float) → Number i.lo → Number i.hi → le i.lo u ≡ true → le u i.hi ≡ true
    → in_interval (expanded_of i) u ≡ true
unfolding in_interval expanded_of
expanded_holds i u p q h g = go (lt i.hi i.lo)
  where
    below : le (i.lo ⊖ margin) u ≡ true
    below = is_true _ (le_trans (i.lo ⊖ margin) i.lo u (difference_le i.lo margin p margin_finite margin_plus) (passes _ h))

    above : le u (i.hi ⊕ margin) ≡ true
    above = is_true _ (le_trans u i.hi (i.hi ⊕ margin) (passes _ g) (sum_ge i.hi margin q margin_finite margin_plus))

    go : (b : Bool) → in_interval (cond b i (record { lo = i.lo ⊖ margin; hi = i.hi ⊕ margin })) u ≡ true
    go true = rw (h, g)
    go false = rw (below, above)

-- a cell holds every place of its face between its lines
pub holds_place : (id : ℕ) (u v : Float) → CellId.Cell id → T (fits binary64 u) → T (fits binary64 v)
    → le (cell_of id).uv.x.lo u ≡ true → le u (cell_of id).uv.x.hi ≡ true
    → le (cell_of id).uv.y.lo v ≡ true → le v (cell_of id).uv.y.hi ≡ true
    → holds_point (cell_of id) (face_uv_to_xyz (cell_of id).face u v) ≡ true
holds_place id u v c p q a b d e =
    let n = id_bounded id c in
    rw (
      place_test (cell_of id) u v p q,
      expanded_holds (cell_of id).uv.x u n.left n.right a b,
      expanded_holds (cell_of id).uv.y v n.lower n.upper d e,
    )

-- ---- a cell's own corners

module _ (id : ℕ) (c : CellId.Cell id) where
  abbrev lines : Rect
  lines = (cell_of id).uv

  x_rises : le lines.x.lo lines.x.hi ≡ true
  unfolding cell_of bound_uv
  x_rises = is_true _ (span_rises (face_ij id).i (CellId.level_of id) (level_le id) (face_ij_in id c).i)

  y_rises : le lines.y.lo lines.y.hi ≡ true
  unfolding cell_of bound_uv
  y_rises = is_true _ (span_rises (face_ij id).j (CellId.level_of id) (level_le id) (face_ij_in id c).j)

  same : (x : Float) → Number x → le x x ≡ true
  same x h = is_true _ (le_self x h.0)

  -- a cell holds its four corners, taken before they are brought to unit length
  pub holds_corner : (k : ℕ) → k < 4 → holds_point (cell_of id) (corner_vector (cell_of id) k) ≡ true
  holds_corner k h = go k (id_bounded id c) h
    where
      go : (k : ℕ) → Bounded (cell_of id) → k < 4 → holds_point (cell_of id) (corner_vector (cell_of id) k) ≡ true
      go zero n h =
          holds_place id lines.x.lo lines.y.lo c n.left.1 n.lower.1
          (same lines.x.lo n.left) x_rises (same lines.y.lo n.lower) y_rises
      go (suc zero) n h =
          holds_place id lines.x.hi lines.y.lo c n.right.1 n.lower.1
          x_rises (same lines.x.hi n.right) (same lines.y.lo n.lower) y_rises
      go (suc (suc zero)) n h =
          holds_place id lines.x.hi lines.y.hi c n.right.1 n.upper.1
          x_rises (same lines.x.hi n.right) y_rises (same lines.y.hi n.upper)
      go (suc (suc (suc zero))) n h =
          holds_place id lines.x.lo lines.y.hi c n.left.1 n.upper.1
          (same lines.x.lo n.left) x_rises y_rises (same lines.y.hi n.upper)
      go (suc (suc (suc (suc k)))) n h = absurd (omega arith)
