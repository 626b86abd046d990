-- The curve's two ways undo each other: from an id to its place and back, and from a place to its leaf and back, over the number of levels.
use mathlib.Core.Path.{◌≡◌, refl, sym, ◌∙◌, subst}
use Prim.Native.Nat.{ℕ, zero, suc, ◌+◌, ◌-◌, ◌*◌, ◌/◌, ◌%◌, ◌^◌, ◌≤◌, ◌<◌}
use native.Mathlib.Nat.{zero-add, mul_comm, mul-one, div-one, div-div-eq-div-mul, div-eq_of_lt, pow-suc}
use native.Mathlib.Omega.{arith}
use lib.Dec.{eqb}
use lib.Pow.{pow-add}
use borrow.Author.Tests.{eqb-true}
use Rattle.cellid.specs.CellId.{IsCell, id_of, face_of}
use Rattle.cellid.proofs.Laws.{every, pow_pair, level_cell}
use Rattle.cellid.proofs.Parts.{upper, upper_step}
use Rattle.turns.proofs.Laws.{table}
use Rattle.positions.specs.Positions.{index_in, ij_of, step_of}
use Rattle.hilbert.specs.Curve.{ij_at, pos_at, turn_of, walk, face_ij, pos_of, digits, leaf_of}
use Rattle.hilbert.proofs.Laws.{ij_lt, pos_lt, walk_in, digits_in, leaf_cell}
use Rattle.hilbert.proofs.Depth.{pos_upper, walk_on}

-- in each row the two tables undo each other
pub pos_ij : (row pos : ℕ) → row < 4 → pos < 4 → pos_of row (ij_at row pos) ≡ pos
unfolding ij_at pos_of index_in every
pos_ij row pos h g = eqb-true _ _ (table (λ r p. eqb (pos_of r (ij_at r p)) p) refl row pos h g)

pub ij_pos : (row ij : ℕ) → row < 4 → ij < 4 → ij_at row (pos_of row ij) ≡ ij
unfolding ij_at pos_of index_in every
ij_pos row ij h g = eqb-true _ _ (table (λ r q. eqb (ij_at r (pos_of r q)) q) refl row ij h g)

-- ---- from an id to its place, and back

-- the n-th bits of the place name the quarter that the walk took
quarter_of_lem : (id n : ℕ) → n < 30 → ij_of (walk id 30).i (walk id 30).j (29 - n) ≡ ij_at (walk id n).row (pos_at id (29 - n))
unfolding walk turn_of
quarter_of_lem id n h =
    let s : 29 - n + suc n ≡ 30 = omega arith in
    let r : ((walk id 30).i / 2 ^ (29 - n) ≡ (walk id (suc n)).i) × ((walk id 30).j / 2 ^ (29 - n) ≡ (walk id (suc n)).j) =
    subst (λ (k : ℕ). ((walk id k).i / 2 ^ (29 - n) ≡ (walk id (suc n)).i) × ((walk id k).j / 2 ^ (29 - n) ≡ (walk id (suc n)).j)) s (walk_on id (suc n) (29 - n)) in
    let e = ij_lt (walk id n).row (pos_at id (29 - n)) (walk_in id n).row (omega arith) in
    rw (r.0, r.1) (omega arith)

digits_walk : (id n : ℕ) → n ≤ 30 → digits (face_of id) (walk id 30).i (walk id 30).j n ≡ record { n = upper id n; row = (walk id n).row }
unfolding digits step_of walk turn_of
digits_walk id zero h = refl
digits_walk id (suc n) h =
    let b : pos_at id (29 - n) < 4 = omega arith in
    let p = pos_ij (walk id n).row (pos_at id (29 - n)) (walk_in id n).row b in
    let u : 4 * upper id n + pos_at id (29 - n) ≡ upper id (suc n) = omega (arith, upper_step id n (omega arith), pos_upper id n (omega arith)) in
    rw (digits_walk id n (omega arith), quarter_of_lem id n (omega arith), p, u)

-- the place of an id is that of the leaf with the id's bits but the last one set
pub leaf_back : (id : ℕ) → leaf_of (face_ij id).face (face_ij id).i (face_ij id).j ≡ 2 * (id / 2) + 1
unfolding leaf_of face_ij
leaf_back id = rw (digits_walk id 30 (omega arith))

-- so of a leaf it is its own
pub leaf_of_place : (id p : ℕ) → IsCell id 30 p → leaf_of (face_ij id).face (face_ij id).i (face_ij id).j ≡ id
unfolding id_of
leaf_of_place id p c = leaf_back id ∙ omega (arith, c.is, mul-one (2 * p + 1))

-- ---- from a place to its leaf, and back

-- m levels further: the pairs before stay
digits_on : (face i j n m : ℕ) → face < 8 → (digits face i j (m + n)).n / 2 ^ (2 * m) ≡ (digits face i j n).n
unfolding digits step_of
digits_on face i j n zero h = rw (zero-add n) (div-one (digits face i j n).n)
digits_on face i j n (suc m) h =
    let s : suc m + n ≡ suc (m + n) = omega arith in
    let d = digits face i j (m + n) in
    let r = pos_lt d.row (ij_of i j (29 - (m + n))) (digits_in 8 face i j (m + n) h).row (omega arith) in
    let q : (4 * d.n + pos_of d.row (ij_of i j (29 - (m + n)))) / 4 ≡ d.n = omega arith in
    rw (s, pow_pair m (suc m) (omega arith), ← div-div-eq-div-mul (4 * d.n + pos_of d.row (ij_of i j (29 - (m + n)))) 4 (2 ^ (2 * m)), q)
    (digits_on face i j n m h)

leaf_upper : (face i j n : ℕ) → face < 8 → n ≤ 30 → upper (leaf_of face i j) n ≡ (digits face i j n).n
unfolding leaf_of
leaf_upper face i j n h g =
    let s : 30 - n + n ≡ 30 = omega arith in
    let half : (2 * (digits face i j 30).n + 1) / 2 ≡ (digits face i j 30).n = omega arith in
    rw (pow-add 2 (2 * (30 - n)) 1, mul_comm (2 ^ (2 * (30 - n))) 2, ← div-div-eq-div-mul (2 * (digits face i j 30).n + 1) 2 (2 ^ (2 * (30 - n))), half)
    (subst (λ (k : ℕ). (digits face i j k).n / 2 ^ (2 * (30 - n)) ≡ (digits face i j n).n) s (digits_on face i j n (30 - n) h))

-- one bit further up
bit_down : (x n : ℕ) → n < 30 → x / 2 ^ (30 - n) ≡ x / 2 ^ (29 - n) / 2
bit_down x n h =
    let e : 30 - n ≡ suc (29 - n) = omega arith in
    rw (e, pow-suc 2 (29 - n)) (sym (div-div-eq-div-mul x (2 ^ (29 - n)) 2))

quarter_i : (i j n : ℕ) → n < 30 → 2 * (i / 2 ^ (30 - n)) + ij_of i j (29 - n) / 2 ≡ i / 2 ^ (30 - suc n)
quarter_i i j n h = let e : 30 - suc n ≡ 29 - n = omega arith in rw (e, bit_down i n h) (omega arith)

quarter_j : (i j n : ℕ) → n < 30 → 2 * (j / 2 ^ (30 - n)) + ij_of i j (29 - n) % 2 ≡ j / 2 ^ (30 - suc n)
quarter_j i j n h = let e : 30 - suc n ≡ 29 - n = omega arith in rw (e, bit_down j n h) (omega arith)

walk_leaf : (face i j n : ℕ) → face < 8 → i < 2 ^ 30 → j < 2 ^ 30 → n ≤ 30
    → walk (leaf_of face i j) n ≡ record { i = i / 2 ^ (30 - n); j = j / 2 ^ (30 - n); row = (digits face i j n).row }
unfolding walk turn_of digits step_of
walk_leaf face i j zero f h g l = rw (div-eq_of_lt h, div-eq_of_lt g, leaf_upper face i j 0 f (omega arith))
walk_leaf face i j (suc n) f h g l =
    let d = digits face i j n in
    let ij = ij_of i j (29 - n) in
    let r = (digits_in 8 face i j n f).row in
    let b : ij < 4 = omega arith in
    let q = pos_lt d.row ij r b in
    let u : upper (leaf_of face i j) (suc n) ≡ 4 * d.n + pos_of d.row ij = leaf_upper face i j (suc n) f l in
    let p : pos_at (leaf_of face i j) (29 - n) ≡ pos_of d.row ij = pos_upper (leaf_of face i j) n (omega arith) ∙ omega arith in
    rw (walk_leaf face i j n f h g (omega arith), p, ij_pos d.row ij r b, quarter_i i j n l, quarter_j i j n l)

-- the leaf of a place has that place
pub place_of_leaf : (face i j : ℕ) → face < 6 → i < 2 ^ 30 → j < 2 ^ 30
    → face_ij (leaf_of face i j) ≡ record { face = face; i = i; j = j; orientation = (digits face i j 30).row }
unfolding face_ij digits
place_of_leaf face i j f h g =
    rw (level_cell (leaf_of face i j) 30 (digits face i j 30).n (leaf_cell face i j f), walk_leaf face i j 30 (omega arith) h g (omega arith), leaf_upper face i j 0 (omega arith) (omega arith), div-one i, div-one j)
