-- Leaves of points and of coordinates are cells of the level 30, the cells around a corner are cells of their level, three or four.
use Rattle.std.proofs.Common.{◌≡◌, ℕ, suc, ◌+◌, ◌-◌, ◌*◌, ◌/◌, ◌%◌, ◌^◌, ◌<◌, ◌≤◌, min, Bool, true, false, cond, ◌&&◌, ◌||◌, eqb, ltb, leb, ◌⊎◌, [], ◌∷◌, length, sym, refl, ap, ◌∙◌, inl, inr, zero-mul, arith, pow_pos, pow_mono, ltb-true, eq-eqb, ne_eqb, leb-true}
use lib.Bits.{bit_and, and_comm}
use Rattle.cellid.specs.CellId.{IsCell, parent_at}
use Rattle.cellid.proofs.Laws.{and_power, one_shl}
use Rattle.cellid.proofs.Ancestors.{parent_cell}
use Rattle.hilbert.specs.Curve.{face_ij}
use Rattle.hilbert.proofs.Laws.{leaf_cell, face_ij_in}
use Rattle.order.specs.Order.{All}
use Rattle.point.specs.declared.Point.{Point}
use Rattle.stuv.specs.Projection.{xyz_to_face_uv, face_uv_to_xyz}
use Rattle.stuv.proofs.Laws.{face_lt}
use Rattle.neighbors.specs.declared.Toward.{Toward}
use Rattle.neighbors.specs.Neighbors.{AtLevel, leaf_of_point, leaf_wrapped, leaf_beside, middle_at, toward_of, vertex_neighbors}

-- ---- leaves

pub face_uv_lt : (r : Point) → (xyz_to_face_uv r).face < 6
unfolding xyz_to_face_uv
face_uv_lt r = face_lt r

-- the leaf of a point is a valid leaf, whatever the point
pub point_leaf : (p : Point) → AtLevel 30 (leaf_of_point p)
unfolding leaf_of_point
point_leaf p = (_, leaf_cell _ _ _ (face_uv_lt p))

pub wrapped_leaf : (face i j : ℕ) → AtLevel 30 (leaf_wrapped face i j)
unfolding leaf_wrapped
wrapped_leaf face i j = (_, leaf_cell _ _ _ (face_uv_lt (face_uv_to_xyz face (middle_at i) (middle_at j))))

pub beside_leaf : (face i j : ℕ) (same : Bool) → face < 6 → AtLevel 30 (leaf_beside face i j same)
unfolding leaf_beside
beside_leaf face i j true h = (_, leaf_cell face (i - 1) (j - 1) h)
beside_leaf face i j false h = wrapped_leaf face i j

-- ---- the cells around a corner

leaf_parent : (L id : ℕ) → L ≤ 30 → AtLevel 30 id → AtLevel L (parent_at id L)
leaf_parent L id h c = (_, parent_cell L c.1 h)

-- the cell across, and whether there is one
unfoldable across : ℕ → ℕ → Bool × ℕ
across id level =
    let f = face_ij id in
    let a = toward_of f.i (2 ^ (29 - level)) in
    let b = toward_of f.j (2 ^ (29 - level)) in
    (a.same || b.same, parent_at (leaf_beside f.face a.at b.at (a.same && b.same)) level)

few : (b : Bool) (w : ℕ) → (suc (suc (suc (length (cond b (w ∷ []) [])))) ≡ 3) ⊎ (suc (suc (suc (length (cond b (w ∷ []) [])))) ≡ 4)
few true w = inr refl
few false w = inl refl

-- three or four
pub neighbors_few : (id level : ℕ) → (length (vertex_neighbors id level) ≡ 3) ⊎ (length (vertex_neighbors id level) ≡ 4)
unfolding vertex_neighbors across
neighbors_few id level = few (across id level).0 (across id level).1

all_four : (P : ℕ → Type 0) (b : Bool) (x y z w : ℕ) → P x → P y → P z → P w → All P (x ∷ y ∷ z ∷ cond b (w ∷ []) [])
unfolding All
all_four P true x y z w p q r s = (p, (q, (r, (s, tt))))
all_four P false x y z w p q r s = (p, (q, (r, tt)))

-- each a cell of the level
pub neighbors_cells : (id M q level : ℕ) → IsCell id M q → level ≤ M → All (AtLevel level) (vertex_neighbors id level)
unfolding vertex_neighbors across
neighbors_cells id M q level c h =
    let f : (face_ij id).face < 6 = (face_ij_in id (M, q, c)).face in
    let l : level ≤ 30 = omega (arith, c.level) in
    all_four (AtLevel level) (across id level).0 _ _ _ (across id level).1
    (_, parent_cell level c h)
    (leaf_parent level _ l (beside_leaf _ _ _ _ f))
    (leaf_parent level _ l (beside_leaf _ _ _ _ f))
    (leaf_parent level _ l (beside_leaf _ _ _ _ f))

-- ---- the cell beside, by bits

-- the numbers of the code: `1 << p`, and that `<< 1`
pub record Sizes (p h s : ℕ) : Type 0 where
  pub half : h ≡ 2 ^ p
  pub whole : s ≡ 2 * 2 ^ p
  pub fits : s ≤ 2 ^ 30

pub sizes : (p : ℕ) → p < 30 → Sizes p (1 * 2 ^ p % 2 ^ 64) (1 * 2 ^ p % 2 ^ 64 * 2 ^ 1 % 2 ^ 64)
sizes p h =
    let a : 1 * 2 ^ p % 2 ^ 64 ≡ 2 ^ p = one_shl p (omega arith) in
    let b : 2 ^ p ≤ 2 ^ 29 = pow_mono {i = p} {j = 29} (omega arith) in
    let s : 1 * 2 ^ p % 2 ^ 64 * 2 ^ 1 % 2 ^ 64 ≡ 2 * 2 ^ p = rw a (omega (arith, b)) in
    record { half = a; whole = s; fits = rw s (omega (arith, b)) }

pub bit_set : (i p : ℕ) → (bit_and i (2 ^ p) ≡ 0 → ⊥) → eqb (i / 2 ^ p % 2) 1 ≡ true
bit_set i p h =
    let e : bit_and i (2 ^ p) ≡ i / 2 ^ p % 2 * 2 ^ p = and_comm i (2 ^ p) ∙ and_power i p in
    eq-eqb _ _ (one (i / 2 ^ p % 2) (omega arith) (λ z. h (e ∙ ap (λ (x : ℕ). x * 2 ^ p) z ∙ zero-mul (2 ^ p))))
  where
    one : (b : ℕ) → b < 2 → (b ≡ 0 → ⊥) → b ≡ 1
    one b l n = omega (arith, n)

pub bit_clear : (i p : ℕ) → bit_and i (2 ^ p) ≡ 0 → eqb (i / 2 ^ p % 2) 1 ≡ false
bit_clear i p h =
    let e : i / 2 ^ p % 2 * 2 ^ p ≡ 0 = sym (and_comm i (2 ^ p) ∙ and_power i p) ∙ h in
    ne_eqb _ _ (λ z. let g : 1 * 2 ^ p ≡ 0 = ap (λ (x : ℕ). x * 2 ^ p) (sym z) ∙ e in absurd (omega (arith, g, pow_pos p)))

-- where the cell beside lies: at most one past the face, and on the face where it says so
pub record TowardIn (t : Toward) : Type 0 where
  pub past : t.at ≤ 2 ^ 30 + 1
  pub on : t.same ≡ true → (0 < t.at) × (t.at ≤ 2 ^ 30)

toward_on : (b : Bool) (i s : ℕ) → i < 2 ^ 30
    → TowardIn (cond b (record { same = ltb (i + s) (2 ^ 30); at = min (i + s) (2 ^ 30) + 1 }) (record { same = leb s i; at = (i + 1) - s }))
toward_on true i s h = record { past = omega arith; on = λ e. let l : i + s < 2 ^ 30 = ltb-true _ _ e in (omega arith, omega (arith, l)) }
toward_on false i s h = record { past = omega (arith, h); on = λ e. let l : s ≤ i = leb-true _ _ e in (omega (arith, l), omega (arith, h)) }

pub toward_in : (i half : ℕ) → i < 2 ^ 30 → TowardIn (toward_of i half)
unfolding toward_of
toward_in i half h = toward_on (eqb (i / half % 2) 1) i (2 * half) h
