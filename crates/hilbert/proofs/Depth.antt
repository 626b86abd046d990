-- The walk down the curve, over the number of levels: it depends on no pair of bits beneath; a child is at its parent's place with one bit more.
use mathlib.Core.Path.{◌≡◌, sym, ap, ap₂, ◌∙◌, subst}
use Prim.Native.Nat.{ℕ, zero, suc, ◌+◌, ◌-◌, ◌*◌, ◌/◌, ◌%◌, ◌^◌, ◌≤◌, ◌<◌}
use native.Mathlib.Nat.{add-zero, zero-add, mul_comm, div-div-eq-div-mul, div-one, div-eq_of_lt, mul-add-div_right, pow-suc}
use native.Mathlib.Numerals.{add-one}
use native.Mathlib.Omega.{arith}
use lib.Pow.{pow_pos, pow-add}
use Rattle.cellid.specs.CellId.{IsCell, bit_at, place_at, parent_at, child_of}
use Rattle.cellid.proofs.Parts.{upper, upper_step, upper_place}
use Rattle.cellid.proofs.Leaves.{child_cell}
use Rattle.hilbert.specs.Curve.{walk, turn_of, pos_at, face_ij}
use Rattle.hilbert.proofs.Laws.{ij_lt, walk_in}

-- the pair of bits of the level after n
pub pos_upper : (id n : ℕ) → n < 30 → pos_at id (29 - n) ≡ upper id (suc n) % 4
pos_upper id n h = let e : 30 - suc n ≡ 29 - n = omega arith in rw e

-- two numbers that agree down to the n-th pair lead to one place in n levels
pub walk_same : (a b n : ℕ) → n ≤ 30 → upper a n ≡ upper b n → walk a n ≡ walk b n
unfolding walk
walk_same a b zero h e = rw e
walk_same a b (suc n) h e =
    ap₂ turn_of (walk_same a b n (omega arith) (upper_step a n (omega arith) ∙ ap (λ (x : ℕ). x / 4) e ∙ sym (upper_step b n (omega arith))))
    (pos_upper a n (omega arith) ∙ ap (λ (x : ℕ). x % 4) e ∙ sym (pos_upper b n (omega arith)))

-- so the ancestor at a level stands where its descendants' walks pass that level
pub walk_parent : (id n : ℕ) → n ≤ 30 → walk (parent_at id n) n ≡ walk id n
unfolding parent_at
walk_parent id n h = walk_same (parent_at id n) id n h (rw (pow-add 2 (place_at n) 1, mul_comm (bit_at n) 2) (cut (id / (2 * bit_at n)) (bit_at n) (pow_pos (place_at n))))
  where
    cut : (x C : ℕ) → 0 < C → (x * (2 * C) + C) / (2 * C) ≡ x
    cut x C c = mul-add-div_right (omega arith) x C ∙ ap (λ (y : ℕ). x + y) (div-eq_of_lt (omega arith)) ∙ add-zero x

-- and a child at its parent's place with one bit more of i and of j, as the table says
pub walk_child : {id L p : ℕ} (k : ℕ) → IsCell id L p → L < 30 → k < 4 → walk (child_of id k) (L + 1) ≡ turn_of (walk id L) k
unfolding walk
walk_child {id} {L} {p} k c h g =
    let d = child_cell k c h g in
    let u : upper (child_of id k) (suc L) ≡ 4 * p + k = ap (upper (child_of id k)) (sym (add-one L)) ∙ upper_place (child_of id k) (L + 1) (4 * p + k) d in
    let v : upper (child_of id k) L ≡ upper id L = upper_step (child_of id k) L h ∙ omega (arith, upper_place id L p c) in
    rw (add-one L) (ap₂ turn_of (walk_same (child_of id k) id L (omega arith) v) (pos_upper (child_of id k) L h ∙ omega arith))

-- ---- m levels further: the bits before stay

half_down : (x y m : ℕ) → x / 2 ≡ y → x / 2 ^ suc m ≡ y / 2 ^ m
half_down x y m e = rw (pow-suc 2 m, mul_comm (2 ^ m) 2, ← div-div-eq-div-mul x 2 (2 ^ m), e)

pub walk_on : (id n m : ℕ) → ((walk id (m + n)).i / 2 ^ m ≡ (walk id n).i) × ((walk id (m + n)).j / 2 ^ m ≡ (walk id n).j)
unfolding walk turn_of
walk_on id n zero = rw (zero-add n) (div-one (walk id n).i, div-one (walk id n).j)
walk_on id n (suc m) =
    let s : suc m + n ≡ suc (m + n) = omega arith in
    let r = walk_on id n m in
    let b : pos_at id (29 - (m + n)) < 4 = omega arith in
    let e = ij_lt (walk id (m + n)).row (pos_at id (29 - (m + n))) (walk_in id (m + n)).row b in
    rw s (half_down _ _ m (omega arith) ∙ r.0, half_down _ _ m (omega arith) ∙ r.1)

-- the place of any id lies in the square that its walk comes to at a level
pub walk_square : (id L : ℕ) → L ≤ 30 → ((face_ij id).i / 2 ^ (30 - L) ≡ (walk id L).i) × ((face_ij id).j / 2 ^ (30 - L) ≡ (walk id L).j)
unfolding face_ij
walk_square id L h =
    let e : 30 - L + L ≡ 30 = omega arith in
    subst (λ (n : ℕ). ((walk id n).i / 2 ^ (30 - L) ≡ (walk id L).i) × ((walk id n).j / 2 ^ (30 - L) ≡ (walk id L).j)) e (walk_on id L (30 - L))
