-- The loop over the level table, and the bound: one to six cells, all of one level.
use mathlib.Core.Path.{◌≡◌, refl}
use mathlib.Core.Bool.{Bool, true, false, cond}
use mathlib.Core.List.{List, [], ◌∷◌, ◌++◌}
use mathlib.Core.Logic.{⊎_elim}
use Prim.Native.Nat.{ℕ, zero, suc, ◌+◌, ◌-◌, ◌≤◌, ◌<◌}
use native.Mathlib.Numerals.{add-one}
use native.Mathlib.Omega.{arith}
use lib.Dec.{lit≤, lit<}
use lib.ListN.{length, get_or, drop, take}
use lib.Seq.{drop-cons}
use lib.Ieee.{Float, nan, le}
use Rattle.cellid.specs.CellId.{Cell, face_cell, six_faces}
use Rattle.cellid.proofs.Parts.{face_cell_lem}
use Rattle.order.specs.Order.{All}
use Rattle.point.specs.declared.Point.{Point}
use Rattle.neighbors.specs.Neighbors.{leaf_of_point, vertex_neighbors, in_four, AtLevel}
use Rattle.neighbors.specs.declared.Neighbors.{Neighbors}
use Rattle.neighbors.proofs.Laws.{point_leaf, neighbors_few, neighbors_cells}
use Rattle.cell.specs.declared.Cap.{Cap}
use Rattle.cap.specs.declared.Bound.{Bound}
use Rattle.cap.specs.Bound.{thresholds, level_in, level_for, bound_at, union_bound, in_six}
use Rattle.cap.proofs.Table.{thirty}

-- ---- the loop over the table
pub level_next : (ts : List Float) (r : Float) (k : ℕ) → k < length ts → level_in (drop k ts) r ≡ cond (le r (get_or ts k nan)) (suc (level_in (drop (k + 1) ts) r)) 0
unfolding level_in
level_next ts r k h = rw (drop-cons ts k nan h, level_in, add-one k)

level_in_le : (ts : List Float) (r : Float) → level_in ts r ≤ length ts
unfolding level_in
level_in_le [] r = lit≤ tt
level_in_le (t ∷ ts) r = go (le r t) (level_in_le ts r)
  where
    go : (b : Bool) → level_in ts r ≤ length ts → cond b (suc (level_in ts r)) 0 ≤ suc (length ts)
    go true h = omega arith
    go false h = omega arith

pub level_for_le : (r : Float) → level_for r ≤ 30
unfolding level_for thresholds
level_for_le r = level_in_le thresholds r

pub level_at_most : (r : Float) (n : ℕ) → n ≡ level_for r → n ≤ 30
level_at_most r n e = omega (arith, level_for_le r, e)

module _ (r : Float) (k : ℕ) (h : k < 30) (so_far : level_for r ≡ k + level_in (drop k thresholds) r) where
  next : level_in (drop k thresholds) r ≡ cond (le r (get_or thresholds k nan)) (suc (level_in (drop (k + 1) thresholds) r)) 0
  next = level_next thresholds r k (rw thirty h)

  pub level_up : le r (get_or thresholds k nan) ≡ true → level_for r ≡ k + 1 + level_in (drop (k + 1) thresholds) r
  level_up t = let n : level_in (drop k thresholds) r ≡ suc (level_in (drop (k + 1) thresholds) r) = rw t at next in omega (arith, so_far, n)

  pub level_here : le r (get_or thresholds k nan) ≡ false → level_for r ≡ k
  level_here t = let n : level_in (drop k thresholds) r ≡ 0 = rw t at next in omega (arith, so_far, n)

pub level_first : (r : Float) → level_for r ≡ 0 + level_in (drop 0 thresholds) r
unfolding level_for
level_first r = omega arith

pub level_last : (r : Float) → level_for r ≡ 30 + level_in (drop 30 thresholds) r → level_for r ≡ 30
unfolding thresholds level_in
level_last r h = h

-- ---- the bound

-- four places with two zeros after
abbrev six : List ℕ → ℕ → Bound
six l n = record { ids = get_or l 0 0 ∷ get_or l 1 0 ∷ get_or l 2 0 ∷ get_or l 3 0 ∷ 0 ∷ 0 ∷ []; count = n }

in_six_lem : (l : List ℕ) → length l ≤ 4 → six (take 4 (l ++ 0 ∷ 0 ∷ 0 ∷ 0 ∷ [])) (length l) ≡ in_six l
in_six_lem [] h = refl
in_six_lem (a ∷ []) h = refl
in_six_lem (a ∷ b ∷ []) h = refl
in_six_lem (a ∷ b ∷ c ∷ []) h = refl
in_six_lem (a ∷ b ∷ c ∷ d ∷ []) h = refl
in_six_lem (a ∷ b ∷ c ∷ d ∷ e ∷ l) h = absurd (omega arith)

neighbors_four : (id level : ℕ) → length (vertex_neighbors id level) ≤ 4
neighbors_four id level = ⊎_elim (λ e. omega (arith, e)) (λ e. omega (arith, e)) (neighbors_few id level)

pub four_six : (n : Neighbors) (id level : ℕ) → n ≡ in_four (vertex_neighbors id level) → six n.ids n.count ≡ in_six (vertex_neighbors id level)
four_six n id level e = rw e (in_six_lem (vertex_neighbors id level) (neighbors_four id level))

module _ (center : Point) where
  at_short : (level : ℕ) → length (bound_at level center) ≤ 6
  unfolding bound_at six_faces
  at_short zero = lit≤ tt
  at_short (suc n) = omega (arith, neighbors_four (leaf_of_point center) n)

  at_some : (level : ℕ) → 0 < length (bound_at level center)
  unfolding bound_at six_faces
  at_some zero = lit< tt
  at_some (suc n) = ⊎_elim (λ e. omega (arith, e)) (λ e. omega (arith, e)) (neighbors_few (leaf_of_point center) n)

  -- all of one level: 0 for the faces, else one less than the level taken
  at_level : (level : ℕ) → level ≤ 30 → All (AtLevel (level - 1)) (bound_at level center)
  unfolding bound_at six_faces All
  at_level zero h = (face 0 (lit< tt), (face 1 (lit< tt), (face 2 (lit< tt), (face 3 (lit< tt), (face 4 (lit< tt), (face 5 (lit< tt), tt))))))
    where
      face : (f : ℕ) → f < 6 → AtLevel 0 (face_cell f)
      face f h = (f, face_cell_lem f h)
  at_level (suc n) h = let p = point_leaf center in
      let e : suc n - 1 ≡ n = omega arith in
      rw e (neighbors_cells (leaf_of_point center) 30 p.0 n p.1 (omega arith))

pub bound_short : (c : Cap) → length (union_bound c) ≤ 6
unfolding union_bound
bound_short c = at_short c.center (level_for c.radius)

pub bound_some : (c : Cap) → 0 < length (union_bound c)
unfolding union_bound
bound_some c = at_some c.center (level_for c.radius)

pub bound_level : (c : Cap) → All (AtLevel (level_for c.radius - 1)) (union_bound c)
unfolding union_bound
bound_level c = at_level c.center (level_for c.radius) (level_for_le c.radius)

cells : (L : ℕ) (l : List ℕ) → All (AtLevel L) l → All Cell l
unfolding All
cells L [] h = tt
cells L (x ∷ l) h = ((L, h.0.0, h.0.1), cells L l h.1)

pub bound_cells : (c : Cap) → All Cell (union_bound c)
bound_cells c = cells (level_for c.radius - 1) (union_bound c) (bound_level c)
