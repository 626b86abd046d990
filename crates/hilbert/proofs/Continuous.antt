-- The curve is continuous: in a face, each cell of a level is side by side with the next one of that level, and so is each leaf with the next leaf. What the
-- tables must have for it is computed, row by row.
use mathlib.Core.Path.{◌≡◌, refl, sym, ap, ◌∙◌}
use mathlib.Core.Bool.{Bool, true}
use mathlib.Core.Logic.{◌⊎◌, inl, inr, ⊎_elim}
use Prim.Native.Nat.{ℕ, zero, suc, ◌+◌, ◌-◌, ◌*◌, ◌%◌, ◌^◌, ◌≤◌, ◌<◌}
use native.Mathlib.Nat.{eq-zero-or-pos, eq-or-lt_of_le}
use native.Mathlib.Omega.{arith}
use lib.Dec.{eqb}
use borrow.Author.Tests.{eqb-true}
use Rattle.cellid.specs.CellId.{IsCell, face_of}
use Rattle.cellid.proofs.Laws.{every, every_at}
use Rattle.cellid.proofs.Parts.{upper, upper_step, upper_place}
use Rattle.turns.specs.Turns.{row_at, Walk}
use Rattle.hilbert.specs.Curve.{ij_at, pos_at, turn_of, walk, face_ij}
use Rattle.hilbert.proofs.Laws.{ij_lt, walk_in}
use Rattle.hilbert.proofs.Depth.{pos_upper, walk_same}

-- two places of a grid side by side: one of i and j goes up or down by one, the other stays
pub data Beside (i j i' j' : ℕ) : Type 0 where
  i_up : i + 1 ≡ i' → j ≡ j' → Beside i j i' j'
  i_down : i ≡ i' + 1 → j ≡ j' → Beside i j i' j'
  j_up : i ≡ i' → j + 1 ≡ j' → Beside i j i' j'
  j_down : i ≡ i' → j ≡ j' + 1 → Beside i j i' j'

-- ---- places side by side

-- how many steps along the grid lead from one place to another
abbrev steps : ℕ → ℕ → ℕ → ℕ → ℕ
steps i j i' j' = (i - i') + (i' - i) + ((j - j') + (j' - j))

one_step : (i j i' j' : ℕ) → steps i j i' j' ≡ 1 → Beside i j i' j'
one_step i j i' j' e = by (eq-zero-or-pos (i - i')) (eq-zero-or-pos (i' - i)) (eq-zero-or-pos (j - j'))
  where
    by : (i - i' ≡ 0) ⊎ (0 < i - i') → (i' - i ≡ 0) ⊎ (0 < i' - i) → (j - j' ≡ 0) ⊎ (0 < j - j') → Beside i j i' j'
    by (inr a) b c = i_down (omega arith) (omega arith)
    by (inl a) (inr b) c = i_up (omega arith) (omega arith)
    by (inl a) (inl b) (inr c) = j_down (omega arith) (omega arith)
    by (inl a) (inl b) (inl c) = j_up (omega arith) (omega arith)

-- they stay so where both are moved alike
moved : {a b c d i j i' j' : ℕ} (x y : ℕ) → Beside a b c d → i ≡ x + a → j ≡ y + b → i' ≡ x + c → j' ≡ y + d → Beside i j i' j'
moved x y (i_up p q) e f g h = i_up (omega arith) (omega arith)
moved x y (i_down p q) e f g h = i_down (omega arith) (omega arith)
moved x y (j_up p q) e f g h = j_up (omega arith) (omega arith)
moved x y (j_down p q) e f g h = j_down (omega arith) (omega arith)

-- and are never the same place
apart : {i j i' j' : ℕ} → Beside i j i' j' → i ≡ i' → j ≡ j' → ⊥
apart (i_up p q) e f = omega arith
apart (i_down p q) e f = omega arith
apart (j_up p q) e f = omega arith
apart (j_down p q) e f = omega arith

-- two cells side by side, a corner quarter of each, these side by side too: then so are the same corners of the quarters
corners : {i j i' j' a b c d : ℕ} → Beside i j i' j' → a < 2 → b < 2 → c < 2 → d < 2 → Beside (2 * i + a) (2 * j + b) (2 * i' + c) (2 * j' + d)
    → Beside (2 * (2 * i + a) + a) (2 * (2 * j + b) + b) (2 * (2 * i' + c) + c) (2 * (2 * j' + d) + d)
corners {i} {j} {i'} {j'} s a b c d (i_up p q) = let n : i ≡ i' → ⊥ = λ e. apart s e (omega arith) in i_up (omega arith) (omega arith)
corners {i} {j} {i'} {j'} s a b c d (i_down p q) = let n : i ≡ i' → ⊥ = λ e. apart s e (omega arith) in i_down (omega arith) (omega arith)
corners {i} {j} {i'} {j'} s a b c d (j_up p q) = let n : j ≡ j' → ⊥ = λ e. apart s (omega arith) e in j_up (omega arith) (omega arith)
corners {i} {j} {i'} {j'} s a b c d (j_down p q) = let n : j ≡ j' → ⊥ = λ e. apart s (omega arith) e in j_down (omega arith) (omega arith)

-- ---- what the tables have

-- the first quarter's first quarter is the same corner, and the last quarter's last
first_stays : (row : ℕ) → row < 4 → ij_at (row_at row 0) 0 ≡ ij_at row 0
unfolding ij_at row_at every
first_stays row h = eqb-true _ _ (every_at 4 (λ r. eqb (ij_at (row_at r 0) 0) (ij_at r 0)) refl row h)

last_stays : (row : ℕ) → row < 4 → ij_at (row_at row 3) 3 ≡ ij_at row 3
unfolding ij_at row_at every
last_stays row h = eqb-true _ _ (every_at 4 (λ r. eqb (ij_at (row_at r 3) 3) (ij_at r 3)) refl row h)

-- two walks that end side by side
abbrev Near : Walk → Walk → Type 0
Near v w = Beside v.i v.j w.i w.j

is_near : Walk → Walk → Bool
is_near v w = eqb (steps v.i v.j w.i w.j) 1

-- and still do if one goes on to the last quarter, the other to the first
record Follows (v w : Walk) : Type 0 where
  pub here : Near v w
  pub beneath : Near (turn_of v 3) (turn_of w 0)

-- what is computed, of each row and each position but the last
near_each : (v w : ℕ → ℕ → Walk) → every 4 (λ r. every 3 (λ p. is_near (v r p) (w r p))) ≡ true
    → (row pos : ℕ) → row < 4 → pos < 3 → Near (v row pos) (w row pos)
unfolding is_near
near_each v w e row pos h g =
    one_step _ _ _ _ (eqb-true _ _ (every_at 3 (λ p. is_near (v row p) (w row p)) (every_at 4 (λ r. every 3 (λ p. is_near (v r p) (w r p))) e row h) pos g))

-- so it is with neighbouring quarters of a row,
start : ℕ → Walk
start row = record { i = 0; j = 0; row = row }

quarters : (row pos : ℕ) → row < 4 → pos < 3 → Follows (turn_of (start row) pos) (turn_of (start row) (pos + 1))
unfolding ij_at row_at turn_of every start is_near
quarters row pos h g = record {
  here = near_each (λ r p. turn_of (start r) p) (λ r p. turn_of (start r) (p + 1)) refl row pos h g;
  beneath = near_each (λ r p. turn_of (turn_of (start r) p) 3) (λ r p. turn_of (turn_of (start r) (p + 1)) 0) refl row pos h g;
}

-- hence with those of a cell,
siblings : (w : Walk) (pos : ℕ) → w.row < 4 → pos < 3 → Follows (turn_of w pos) (turn_of w (pos + 1))
unfolding turn_of start
siblings w pos h g =
    let f = quarters w.row pos h g in
    record {
      here = moved (2 * w.i) (2 * w.j) f.here (omega arith) (omega arith) (omega arith) (omega arith);
      beneath = moved (4 * w.i) (4 * w.j) f.beneath (omega arith) (omega arith) (omega arith) (omega arith);
    }

-- and with the last quarter of a cell and the first one of the next
carried : (v w : Walk) → v.row < 4 → w.row < 4 → Follows v w → Follows (turn_of v 3) (turn_of w 0)
unfolding turn_of
carried v w h g f =
    let a = ij_lt v.row 3 h (omega arith) in
    let b = ij_lt w.row 0 g (omega arith) in
    record {
      here = f.beneath;
      beneath = rw (last_stays v.row h, first_stays w.row g) (corners f.here (omega arith) (omega arith) (omega arith) (omega arith) f.beneath);
    }

-- ---- the walk

-- n levels down in one face, to a place and to the next one
follows : (a b n : ℕ) → n ≤ 30 → face_of a ≡ face_of b → upper b n ≡ upper a n + 1 → Follows (walk a n) (walk b n)
unfolding walk
follows a b zero h e f = absurd (omega arith)
follows a b (suc n) h e f =
    let u = upper_step a n (omega arith) in
    let v = upper_step b n (omega arith) in
    let p = pos_upper a n (omega arith) in
    let q = pos_upper b n (omega arith) in
    ⊎_elim
    (λ (l : pos_at a (29 - n) ≡ 3). let z : pos_at b (29 - n) ≡ 0 = omega arith in
    rw (l, z) (carried (walk a n) (walk b n) (walk_in a n).row (walk_in b n).row (follows a b n (omega arith) e (omega arith))))
    (λ (l : pos_at a (29 - n) < 3). let z : pos_at b (29 - n) ≡ pos_at a (29 - n) + 1 = omega arith in
    rw (z, walk_same b a n (omega arith) (omega arith)) (siblings (walk a n) (pos_at a (29 - n)) (walk_in a n).row l))
    (eq-or-lt_of_le (let m : pos_at a (29 - n) ≤ 3 = omega arith in m))

-- two neighbouring cells of a level and a face are side by side in the grid of that level
pub cells_continuous : {a b L p : ℕ} → IsCell a L p → IsCell b L (p + 1) → face_of a ≡ face_of b → Beside (walk a L).i (walk a L).j (walk b L).i (walk b L).j
cells_continuous {a} {b} {L} {p} c d e = (follows a b L c.level e (upper_place b L (p + 1) d ∙ ap (λ (x : ℕ). x + 1) (sym (upper_place a L p c)))).here

-- the leaves number n and n + 1, of one face, are side by side among its leaves
pub continuous : (n : ℕ) → (face_ij (2 * n + 1)).face ≡ (face_ij (2 * (n + 1) + 1)).face
    → Beside (face_ij (2 * n + 1)).i (face_ij (2 * n + 1)).j (face_ij (2 * (n + 1) + 1)).i (face_ij (2 * (n + 1) + 1)).j
unfolding face_ij
continuous n e = (follows (2 * n + 1) (2 * (n + 1) + 1) 30 (omega arith) e (omega arith)).here

-- ---- where it begins and ends: a curve that is turned over or run backwards is just as continuous

-- the first leaf of a face stands in the corner i = j = 0
pub begins : (face : ℕ) → face < 6 → ((face_ij (2 * (face * 2 ^ 60) + 1)).i ≡ 0) × ((face_ij (2 * (face * 2 ^ 60) + 1)).j ≡ 0)
unfolding face_ij walk turn_of ij_at row_at every
begins face h = (
  eqb-true _ _ (every_at 6 (λ f. eqb (face_ij (2 * (f * 2 ^ 60) + 1)).i 0) refl face h),
  eqb-true _ _ (every_at 6 (λ f. eqb (face_ij (2 * (f * 2 ^ 60) + 1)).j 0) refl face h),
)

-- the last one at the far end of i, in the faces 0, 2 and 4, or of j, in 1, 3 and 5
pub ends : (face : ℕ) → face < 6
    → ((face_ij (2 * (face * 2 ^ 60 + (2 ^ 60 - 1)) + 1)).i ≡ (1 - face % 2) * (2 ^ 30 - 1)) × ((face_ij (2 * (face * 2 ^ 60 + (2 ^ 60 - 1)) + 1)).j ≡ face % 2 * (2 ^ 30 - 1))
unfolding face_ij walk turn_of ij_at row_at every
ends face h = (
  eqb-true _ _ (every_at 6 (λ f. eqb (face_ij (2 * (f * 2 ^ 60 + (2 ^ 60 - 1)) + 1)).i ((1 - f % 2) * (2 ^ 30 - 1))) refl face h),
  eqb-true _ _ (every_at 6 (λ f. eqb (face_ij (2 * (f * 2 ^ 60 + (2 ^ 60 - 1)) + 1)).j (f % 2 * (2 ^ 30 - 1))) refl face h),
)
