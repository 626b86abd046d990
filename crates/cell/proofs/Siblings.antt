-- The children of a cell lie between its own lines: whole numbers only, no float is looked into.
use mathlib.Core.Path.{◌≡◌, ap, ◌∙◌}
use Prim.Native.Nat.{ℕ, zero, suc, ◌+◌, ◌-◌, ◌*◌, ◌/◌, ◌%◌, ◌^◌, ◌≤◌, ◌<◌}
use native.Mathlib.Nat.{pow-suc}
use native.Mathlib.Omega.{arith}
use lib.Pow.{pow_mono}
use Rattle.cellid.specs.CellId as CellId
use Rattle.cellid.specs.CellId.{IsCell, child_of}
use Rattle.cellid.proofs.Laws.{level_cell}
use Rattle.cellid.proofs.Leaves.{child_cell}
use Rattle.cellid.proofs.Parts.{face_child}
use Rattle.hilbert.specs.Curve.{walk, turn_of, ij_at, face_ij}
use Rattle.hilbert.proofs.Laws.{ij_lt, walk_in, face_ij_in}
use Rattle.hilbert.proofs.Depth.{walk_child, walk_square}
use Rattle.cell.specs.Cell.{span_at, bound_uv, cell_of}
use Rattle.cell.specs.Siblings.{lines_at, quarters_of, half_of, quarter_at}

-- the middle line comes before the last
pub half_le : (level : ℕ) → 2 ^ (29 - level) ≤ 2 ^ (30 - level)
half_le level = pow_mono {i = 29 - level} {j = 30 - level} (omega arith)

-- ---- one line of leaves: a child's stretch is the lower or the upper half of its parent's

low_first : (w H : ℕ) → (2 * w + 0) * H ≡ w * (2 * H)
low_first w H = omega arith

high_first : (w H : ℕ) → (2 * w + 1) * H ≡ w * (2 * H) + H
high_first w H = omega arith

high_last : (w H : ℕ) → w * (2 * H) + H + H ≡ w * (2 * H) + 2 * H
high_last w H = omega arith

pub span_child : (i m w b L : ℕ) → L < 30 → b < 2 → i / 2 ^ (30 - L) ≡ w → m / 2 ^ (30 - (L + 1)) ≡ 2 * w + b → span_at m (L + 1) ≡ half_of (lines_at i L) b
unfolding span_at half_of lines_at
span_child i m w b L h g e f = go b g f
  where
    s : 30 - (L + 1) ≡ 29 - L
    s = omega arith

    double : 2 ^ (30 - L) ≡ 2 * 2 ^ (29 - L)
    double = let t : 30 - L ≡ suc (29 - L) = omega arith in rw t (omega (arith, pow-suc 2 (29 - L)))

    go : (b : ℕ) → b < 2 → m / 2 ^ (30 - (L + 1)) ≡ 2 * w + b → span_at m (L + 1) ≡ half_of (lines_at i L) b
    go zero g f = rw (f, e, s, double, low_first w (2 ^ (29 - L)))
    go (suc zero) g f = rw (f, e, s, double, high_first w (2 ^ (29 - L)), high_last w (2 ^ (29 - L)))
    go (suc (suc b)) g f = absurd (omega arith)

-- ---- the children are the quarters, in the order of the cell's own row of the curve

pub child_quarter : {id L p : ℕ} (k : ℕ) → IsCell id L p → L < 30 → k < 4 → cell_of (child_of id k) ≡ quarter_at (quarters_of id) (ij_at (quarters_of id).orientation k)
unfolding cell_of quarter_at quarters_of bound_uv face_ij turn_of
child_quarter {id} {L} {p} k c h g =
    let d = child_cell k c h g in
    let w = walk_child k c h g in
    let q = walk_square (child_of id k) (L + 1) d.level in
    let r = walk_square id L c.level in
    let b = ij_lt (walk id L).row k (walk_in id L).row g in
    rw (
      level_cell (child_of id k) (L + 1) (4 * p + k) d,
      level_cell id L p c,
      face_child k c h g,
      span_child _ _ _ (ij_at (walk id L).row k / 2) L h (omega arith) r.0 (q.0 ∙ ap (λ x. x.i) w),
      span_child _ _ _ (ij_at (walk id L).row k % 2) L h (omega arith) r.1 (q.1 ∙ ap (λ x. x.j) w),
    )

-- a cell's lines have its face, and an orientation that is a row of the curve
pub quarters_in : (id : ℕ) → CellId.Cell id → ((quarters_of id).face < 6) × ((quarters_of id).orientation < 4)
unfolding quarters_of
quarters_in id c = let f = face_ij_in id c in (f.face, f.orientation)
