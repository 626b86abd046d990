-- Corners that cells share, the same points bit for bit: a cell's with its children's, siblings' with each other, and those of two cells of one level side by side on a face.
-- Lines are told apart by their numbers: no float is looked into.
use mathlib.Core.Path.{◌≡◌, refl, sym, ap, ◌∙◌}
use Prim.Native.Nat.{ℕ, zero, suc, ◌+◌, ◌-◌, ◌*◌, ◌/◌, ◌%◌, ◌^◌, ◌<◌}
use native.Mathlib.Omega.{arith}
use Rattle.cellid.specs.CellId.{IsCell, child_of}
use Rattle.cellid.proofs.Laws.{level_cell}
use Rattle.hilbert.specs.Curve.{walk, ij_at, pos_of, face_ij}
use Rattle.hilbert.proofs.Laws.{ij_lt, pos_lt}
use Rattle.hilbert.proofs.Depth.{walk_square}
use Rattle.hilbert.proofs.Inverse.{ij_pos}
use Rattle.cell.specs.Cell.{line_at, span_at, bound_uv, cell_of, at_corner, unit_at, vertex_at, vertex_of}
use Rattle.cell.specs.Siblings.{lines_at, quarters_of, half_of, cell_between, quarter_at}
use Rattle.cell.specs.declared.Interval.{Interval}
use Rattle.cell.specs.declared.Quarters.{Quarters}
use Rattle.cell.specs.declared.Cell.{Cell}
use Rattle.cell.proofs.Siblings.{child_quarter, quarters_in}

-- ---- the quarters between six lines: 0 is lower left, 1 upper left, 2 lower right, 3 upper right

-- the corner of the whole that a quarter has, and the quarter's corner across from it
abbrev pub outer : ℕ → ℕ
outer q = at_corner q 0 3 1 2

abbrev pub inner : ℕ → ℕ
inner q = at_corner q 2 1 3 0

outer_at : (id q : ℕ) → q < 4 → vertex_at (quarter_at (quarters_of id) q) (outer q) ≡ vertex_of id (outer q)
unfolding vertex_at quarter_at quarters_of half_of lines_at cell_of bound_uv span_at
outer_at id zero h = refl
outer_at id (suc zero) h = refl
outer_at id (suc (suc zero)) h = refl
outer_at id (suc (suc (suc zero))) h = refl
outer_at id (suc (suc (suc (suc q)))) h = absurd (omega arith)

inner_at : (l : Quarters) (q : ℕ) → q < 4 → vertex_at (quarter_at l q) (inner q) ≡ unit_at l.face l.x.b l.y.b
unfolding vertex_at quarter_at half_of
inner_at l zero h = refl
inner_at l (suc zero) h = refl
inner_at l (suc (suc zero)) h = refl
inner_at l (suc (suc (suc zero))) h = refl
inner_at l (suc (suc (suc (suc q)))) h = absurd (omega arith)

-- the right side of a, with both its corners, is the left side of b
pub record SharesRight (a b : Cell) : Type 0 where
  pub lower : vertex_at a 1 ≡ vertex_at b 0
  pub upper : vertex_at a 2 ≡ vertex_at b 3

-- the upper side of a, with both its corners, is the lower side of b
pub record SharesUpper (a b : Cell) : Type 0 where
  pub left : vertex_at a 3 ≡ vertex_at b 0
  pub right : vertex_at a 2 ≡ vertex_at b 1

left_at : (l : Quarters) (q : ℕ) → q < 2 → SharesRight (quarter_at l q) (quarter_at l (q + 2))
unfolding vertex_at quarter_at half_of
left_at l zero h = record { lower = refl; upper = refl }
left_at l (suc zero) h = record { lower = refl; upper = refl }
left_at l (suc (suc q)) h = absurd (omega arith)

under_at : (l : Quarters) (q : ℕ) → q < 4 → q % 2 ≡ 0 → SharesUpper (quarter_at l q) (quarter_at l (q + 1))
unfolding vertex_at quarter_at half_of
under_at l zero h g = record { left = refl; right = refl }
under_at l (suc zero) h g = absurd (omega arith)
under_at l (suc (suc zero)) h g = record { left = refl; right = refl }
under_at l (suc (suc (suc zero))) h g = absurd (omega arith)
under_at l (suc (suc (suc (suc q)))) h g = absurd (omega arith)

-- ---- so it is with a cell's children

-- the quarter in which a child lies
abbrev pub quarter_of : ℕ → ℕ → ℕ
quarter_of id k = ij_at (quarters_of id).orientation k

-- the quarter that has a corner
abbrev quarter_with : ℕ → ℕ
quarter_with n = at_corner n 0 2 3 1

quarter_with_lem : (n : ℕ) → n < 4 → (quarter_with n < 4) × (outer (quarter_with n) ≡ n)
quarter_with_lem zero h = (omega arith, refl)
quarter_with_lem (suc zero) h = (omega arith, refl)
quarter_with_lem (suc (suc zero)) h = (omega arith, refl)
quarter_with_lem (suc (suc (suc zero))) h = (omega arith, refl)
quarter_with_lem (suc (suc (suc (suc n)))) h = absurd (omega arith)

module _ {id L p : ℕ} (c : IsCell id L p) (h : L < 30) where
  row_lt : (quarters_of id).orientation < 4
  row_lt = (quarters_in id (L, p, c)).1

  quarter_lt : (k : ℕ) → k < 4 → quarter_of id k < 4
  quarter_lt k g = ij_lt (quarters_of id).orientation k row_lt g

  -- a child's outer corner is that corner of the cell
  pub outer_corner : (k : ℕ) → k < 4 → vertex_of (child_of id k) (outer (quarter_of id k)) ≡ vertex_of id (outer (quarter_of id k))
  outer_corner k g = rw (child_quarter k c h g) (outer_at id (quarter_of id k) (quarter_lt k g))

  -- each of a cell's corners is that corner of one of its children
  pub corner_child : (n : ℕ) → n < 4 → (k : ℕ) × (k < 4) × (vertex_of (child_of id k) n ≡ vertex_of id n)
  corner_child n g =
      let q = quarter_with_lem n g in
      let k = pos_of (quarters_of id).orientation (quarter_with n) in
      let f : k < 4 = pos_lt (quarters_of id).orientation (quarter_with n) row_lt q.0 in
      let e : outer (quarter_of id k) ≡ n = ap outer (ij_pos (quarters_of id).orientation (quarter_with n) row_lt q.0) ∙ q.1 in
      (k, f, ap (vertex_of (child_of id k)) (sym e) ∙ outer_corner k f ∙ ap (vertex_of id) e)

  -- the four children meet in one point
  pub inner_corner : (k l : ℕ) → k < 4 → l < 4 → vertex_of (child_of id k) (inner (quarter_of id k)) ≡ vertex_of (child_of id l) (inner (quarter_of id l))
  inner_corner k l g f =
      rw (child_quarter k c h g, child_quarter l c h f)
      (inner_at (quarters_of id) (quarter_of id k) (quarter_lt k g) ∙ sym (inner_at (quarters_of id) (quarter_of id l) (quarter_lt l f)))

  -- two children in one half of v, the first in the lower half of u and the second in the upper, share a side
  pub siblings_left : (k l : ℕ) → k < 4 → l < 4 → quarter_of id l ≡ quarter_of id k + 2 → SharesRight (cell_of (child_of id k)) (cell_of (child_of id l))
  siblings_left k l g f e =
      rw (child_quarter k c h g, child_quarter l c h f, e) (left_at (quarters_of id) (quarter_of id k) (omega (arith, quarter_lt l f, e)))

  -- two children in one half of u, the first in the lower half of v and the second in the upper, share a side
  pub siblings_under : (k l : ℕ) → k < 4 → l < 4 → quarter_of id k % 2 ≡ 0 → quarter_of id l ≡ quarter_of id k + 1
      → SharesUpper (cell_of (child_of id k)) (cell_of (child_of id l))
  siblings_under k l g f z e =
      rw (child_quarter k c h g, child_quarter l c h f, e) (under_at (quarters_of id) (quarter_of id k) (quarter_lt k g) z)

-- ---- two cells of one level and one face, by their places in that level's grid

next_first : (i w : ℕ) → (i + 1) * w ≡ i * w + w
next_first i w = omega arith

span_next : (i m level : ℕ) → m / 2 ^ (30 - level) ≡ i / 2 ^ (30 - level) + 1 → (span_at m level).lo ≡ (span_at i level).hi
unfolding span_at
span_next i m level e = ap line_at (ap (λ (x : ℕ). x * 2 ^ (30 - level)) e ∙ next_first (i / 2 ^ (30 - level)) (2 ^ (30 - level)))

span_same : (i m level : ℕ) → m / 2 ^ (30 - level) ≡ i / 2 ^ (30 - level) → span_at m level ≡ span_at i level
unfolding span_at
span_same i m level e = rw e

left_cells : (face : ℕ) (x m y : Interval) → m.lo ≡ x.hi → SharesRight (cell_between face x y) (cell_between face m y)
unfolding vertex_at
left_cells face x m y e = record { lower = rw e; upper = rw e }

under_cells : (face : ℕ) (x y m : Interval) → m.lo ≡ y.hi → SharesUpper (cell_between face x y) (cell_between face x m)
unfolding vertex_at
under_cells face x y m e = record { left = rw e; right = rw e }

cell_is : {id L p : ℕ} → IsCell id L p → cell_of id ≡ cell_between (face_ij id).face (span_at (face_ij id).i L) (span_at (face_ij id).j L)
unfolding cell_of bound_uv
cell_is {id} {L} {p} c = rw (level_cell id L p c)

module _ {a b L p q : ℕ} (c : IsCell a L p) (d : IsCell b L q) (f : (face_ij b).face ≡ (face_ij a).face) where
  -- side by side in the direction of u, they share a side
  pub cells_left : (walk b L).i ≡ (walk a L).i + 1 → (walk b L).j ≡ (walk a L).j → SharesRight (cell_of a) (cell_of b)
  cells_left i j =
      let s = walk_square a L c.level in
      let t = walk_square b L d.level in
      rw (cell_is c, cell_is d, f, span_same (face_ij a).j (face_ij b).j L (t.1 ∙ j ∙ sym s.1))
      (left_cells _ _ _ _ (span_next (face_ij a).i (face_ij b).i L (t.0 ∙ i ∙ ap (λ (x : ℕ). x + 1) (sym s.0))))

  -- side by side in the direction of v, they share a side
  pub cells_under : (walk b L).i ≡ (walk a L).i → (walk b L).j ≡ (walk a L).j + 1 → SharesUpper (cell_of a) (cell_of b)
  cells_under i j =
      let s = walk_square a L c.level in
      let t = walk_square b L d.level in
      rw (cell_is c, cell_is d, f, span_same (face_ij a).i (face_ij b).i L (t.0 ∙ i ∙ sym s.0))
      (under_cells _ _ _ _ (span_next (face_ij a).j (face_ij b).j L (t.1 ∙ j ∙ ap (λ (x : ℕ). x + 1) (sym s.1))))
