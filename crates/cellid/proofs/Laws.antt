-- Laws of cell ids: the lowest set bit; what each operation makes of the p-th cell of the level L; cells are the valid ids; which cell contains
-- and which intersects another.
use Rattle.std.proofs.Common.{◌≡◌, ℕ, suc, ◌+◌, ◌-◌, ◌*◌, ◌/◌, ◌%◌, ◌^◌, ◌<◌, ◌≤◌, Bool, true, false, ◌&&◌, eqb, leb, sym, refl, ap, ◌∙◌, subst, mul-le-mul_right, mod-eq_of_lt, mul_assoc, mul_comm, add-mul, pos_of_ne-zero, lt_of_mul-lt-mul_right, mul-lt-mul_of_pos_right, one-mul, mul-suc, div-mul-le_self, mul_left_comm, add-one, arith, pow_pos, pow_mono, pow-add, eq-eqb, eqb-true, le-leb, leb-true}
use mathlib.Core.Bool.{and-eq-true_iff}
use native.Mathlib.Nat.{div-div-eq-div-mul, mul-div-mul_right, lt-div-mul-add, div-eq_of_lt-le}
use lib.Bits.{bit_and, bit_or}
use lib.Count.{count_trailing_zeros, trailing_of_zero}
use lib.Pow.{pow-lt, shl-shr}
use Rattle.cellid.specs.CellId.{id_of, low_bit, level_of, place_of, bit_at, place_at, parent_at, child_of, first_leaf, last_leaf, holds, meets, valid_id, IsCell, Cell, one}
pub use Rattle.cellid.proofs.Bits.{bool_iff, or_true, true_or, or_false, no_true, same_bool, every_at, NoneOf, last_arm, last_of, odd_mul, sub_mul, pow_pair, one_shl, zeros_of, odd_part, and_power, same_above}
unfoldable pub use Rattle.cellid.proofs.Bits.{every}
use Rattle.cellid.proofs.Bits.{and_neg, parent_bits}

-- ---- the lowest set bit

-- x & -x at 64 bits
pub low_and : (x : ℕ) → 0 < x → x < 2 ^ 64 → bit_and x (2 ^ 64 - x) ≡ low_bit x
unfolding low_bit
low_and x p h =
    let o = odd_part 64 x p h in
    let z : count_trailing_zeros 64 x ≡ o.1 = ap (count_trailing_zeros 64) o.3 ∙ zeros_of 64 o.1 o.0 o.2 in
    let w : suc (63 - o.1) + o.1 ≡ 64 = omega (arith, o.2) in
    rw z (ap (λ (y : ℕ). bit_and y (2 ^ 64 - y)) o.3 ∙ ap (λ (n : ℕ). bit_and ((2 * o.0 + 1) * 2 ^ o.1) (2 ^ n - (2 * o.0 + 1) * 2 ^ o.1)) (sym w)
    ∙ and_neg (63 - o.1) o.1 o.0 (subst (λ (n : ℕ). (2 * o.0 + 1) * 2 ^ o.1 < 2 ^ n) (sym w) (subst (λ (y : ℕ). y < 2 ^ 64) o.3 h)))

-- the weight of the lowest set bit is at most the number
pub low_le : (x : ℕ) → 0 < x → x < 2 ^ 64 → low_bit x ≤ x
unfolding low_bit
low_le x p h =
    let o = odd_part 64 x p h in
    let z : count_trailing_zeros 64 x ≡ o.1 = ap (count_trailing_zeros 64) o.3 ∙ zeros_of 64 o.1 o.0 o.2 in
    rw z (omega (arith, o.3, add-mul (2 * o.0) 1 (2 ^ o.1), one-mul (2 ^ o.1)))

pub low_pos : (x : ℕ) → 0 < low_bit x
unfolding low_bit
low_pos x = pow_pos (count_trailing_zeros 64 x)

-- and there is room above a number for its lowest set bit
pub low_room : (x : ℕ) → 0 < x → x < 2 ^ 64 → x + low_bit x ≤ 2 ^ 64
unfolding low_bit
low_room x p h =
    let o = odd_part 64 x p h in
    let z : count_trailing_zeros 64 x ≡ o.1 = ap (count_trailing_zeros 64) o.3 ∙ zeros_of 64 o.1 o.0 o.2 in
    let n : (64 - o.1) + o.1 ≡ 64 = omega (arith, o.2) in
    let w : 2 ^ (64 - o.1) * 2 ^ o.1 ≡ 2 ^ 64 = sym (pow-add 2 (64 - o.1) o.1) ∙ ap (λ (k : ℕ). 2 ^ k) n in
    let b : 2 * o.0 + 1 < 2 ^ (64 - o.1) = lt_of_mul-lt-mul_right (2 ^ o.1) (rw (w, ← o.3) h) in
    rw z (omega (arith, o.3, mul-le-mul_right (2 ^ o.1) b, w, add-mul (2 * o.0 + 1) 1 (2 ^ o.1), one-mul (2 ^ o.1), add-one (2 * o.0 + 1), ap (λ (n : ℕ). n * 2 ^ o.1) (add-one (2 * o.0 + 1))))

-- ---- the p-th cell of the level L

pub zeros_id : (L p : ℕ) → count_trailing_zeros 64 (id_of L p) ≡ place_at L
unfolding id_of
zeros_id L p = zeros_of 64 (place_at L) p (omega arith)

pub low_id : (L p : ℕ) → low_bit (id_of L p) ≡ bit_at L
unfolding low_bit
low_id L p = rw (zeros_id L p)

pub level_id : (L p : ℕ) → L ≤ 30 → level_of (id_of L p) ≡ L
unfolding level_of
level_id L p h = rw (zeros_id L p) (omega arith)

pub place_id : (L p : ℕ) → place_of (id_of L p) ≡ p
unfolding place_of id_of
place_id L p =
    let half : (2 * p + 1) / 2 ≡ p = omega arith in
    rw (zeros_id L p, pow-add 2 (place_at L) 1, ← div-div-eq-div-mul ((2 * p + 1) * bit_at L) (bit_at L) 2, shl-shr (2 * p + 1) (place_at L), half)

-- one weight in terms of another, k levels up
pub bit_up : (L k : ℕ) → L + k ≤ 30 → bit_at L ≡ 2 ^ (2 * k) * bit_at (L + k)
bit_up L k h =
    let e : 2 * (30 - L) ≡ 2 * k + 2 * (30 - (L + k)) = omega arith in
    rw (← pow-add 2 (2 * k) (2 * (30 - (L + k)))) (ap (λ (n : ℕ). 2 ^ n) e)

child_core : (p k C : ℕ) → ((2 * p + 1) * (4 * C) - 4 * C) + (2 * k + 1) * (4 * C / 4) ≡ (2 * (4 * p + k) + 1) * C
child_core p k C =
    let q : 4 * C / 4 ≡ C = omega arith in
    rw q (omega (arith, odd_mul p (4 * C), mul_left_comm p 4 C, odd_mul k C, odd_mul (4 * p + k) C, add-mul (4 * p) k C, mul_assoc 4 p C))

pub child_id : (L p k : ℕ) → L < 30 → child_of (id_of L p) k ≡ id_of (L + 1) (4 * p + k)
unfolding child_of id_of
child_id L p k h = rw (low_id L p, bit_up L 1 (omega arith)) (child_core p k (bit_at (L + 1)))

parent_core : (q D C : ℕ) → 0 < D → 0 < C → (2 * q + 1) * C / (2 * (D * C)) * (2 * (D * C)) + D * C ≡ (2 * (q / D) + 1) * (D * C)
parent_core q D C d c =
    let half : (2 * q + 1) / 2 ≡ q = omega arith in
    let e : (2 * q + 1) * C / (2 * (D * C)) ≡ q / D =
    rw (← mul_assoc 2 D C, mul-div-mul_right (2 * q + 1) (2 * D) c, ← div-div-eq-div-mul (2 * q + 1) 2 D, half) in
    rw e (omega (arith, odd_mul (q / D) (D * C), mul_left_comm (q / D) 2 (D * C)))

pub parent_id : (L k q : ℕ) → L + k ≤ 30 → parent_at (id_of (L + k) q) L ≡ id_of L (q / 2 ^ (2 * k))
unfolding parent_at id_of
parent_id L k q h = rw (bit_up L k h) (parent_core q (2 ^ (2 * k)) (bit_at (L + k)) (pow_pos (2 * k)) (pow_pos (place_at (L + k))))

-- (x & -low) | low, at 64 bits
pub parent_is : (x L : ℕ) → L ≤ 30 → x < 2 ^ 64 → bit_or (bit_and x (2 ^ 64 - bit_at L)) (bit_at L) ≡ parent_at x L
unfolding parent_at
parent_is x L l h =
    let w : (64 - place_at L) + place_at L ≡ 64 = omega arith in
    ap (λ (n : ℕ). bit_or (bit_and x (2 ^ n - bit_at L)) (bit_at L)) (sym w) ∙ parent_bits (64 - place_at L) (place_at L) x (rw w h)

-- the leaves of a cell, as places
pub first_id : (L p : ℕ) → first_leaf (id_of L p) ≡ 2 * (p * bit_at L) + 1
unfolding first_leaf id_of
first_id L p = rw (low_id L p) (omega (arith, odd_mul p (bit_at L), pow_pos (place_at L)))

pub last_id : (L p : ℕ) → last_leaf (id_of L p) + 1 ≡ 2 * (p * bit_at L) + 2 * bit_at L
unfolding last_leaf id_of
last_id L p = rw (low_id L p) (omega (arith, odd_mul p (bit_at L), pow_pos (place_at L)))

-- ---- a cell

pub level_le : (id : ℕ) → level_of id ≤ 30
unfolding level_of
level_le id = omega arith

pub level_cell : (id L p : ℕ) → IsCell id L p → level_of id ≡ L
level_cell id L p c = ap level_of c.is ∙ level_id L p c.level

pub low_cell : (id L p : ℕ) → IsCell id L p → low_bit id ≡ bit_at L
low_cell id L p c = ap low_bit c.is ∙ low_id L p

pub cell_pos : (id L p : ℕ) → IsCell id L p → 0 < id
unfolding id_of
cell_pos id L p c = rw c.is (omega (arith, odd_mul p (bit_at L), pow_pos (place_at L)))

pub cell_lt : (id L p : ℕ) → IsCell id L p → id < 12 * 2 ^ 60
unfolding id_of
cell_lt id L p c =
    let u : 2 * L + place_at L ≡ 60 = omega (arith, c.level) in
    let w : 2 ^ (2 * L) * bit_at L ≡ 2 ^ 60 = sym (pow-add 2 (2 * L) (place_at L)) ∙ ap (λ (n : ℕ). 2 ^ n) u in
    let s : 12 * 2 ^ (2 * L) * bit_at L ≡ 12 * 2 ^ 60 = mul_assoc 12 (2 ^ (2 * L)) (bit_at L) ∙ ap (λ (n : ℕ). 12 * n) w in
    rw (c.is, ← s) (mul-lt-mul_of_pos_right (omega (arith, c.place)) (pow_pos (place_at L)))

pub low_small : (id : ℕ) → Cell id → low_bit id ≤ 2 ^ 60
low_small id c = rw (low_cell id c.0 c.1 c.2) (pow_mono {i = place_at c.0} {j = 60} (omega arith))

-- the weight one level up, by a shift
pub shl_two : (L : ℕ) → L < 30 → (bit_at (L + 1) * 2 ^ 2) % 2 ^ 64 ≡ bit_at L
shl_two L h =
    let e : bit_at (L + 1) * 2 ^ 2 ≡ bit_at L = mul_comm (bit_at (L + 1)) 4 ∙ sym (bit_up L 1 (omega arith)) in
    rw e (mod-eq_of_lt (pow-lt {i = place_at L} {j = 64} (omega arith)))

-- ---- the cells are the valid ids, and each is one place of one level

cell_core : (id m t : ℕ) → id ≡ (2 * m + 1) * 2 ^ t → id / 2 ^ 61 ≤ 5 → t ≤ 60 → t % 2 ≡ 0 → IsCell id (30 - t / 2) m
unfolding id_of
cell_core id m t e face top even =
    let place : 2 * (30 - (30 - t / 2)) ≡ t = omega arith in
    let u : 2 * (30 - t / 2) + t ≡ 60 = omega arith in
    let w : 2 ^ (2 * (30 - t / 2)) * 2 ^ t ≡ 2 ^ 60 = sym (pow-add 2 (2 * (30 - t / 2)) t) ∙ ap (λ (n : ℕ). 2 ^ n) u in
    let b : 2 * m + 1 < 12 * 2 ^ (2 * (30 - t / 2)) = lt_of_mul-lt-mul_right (2 ^ t) (rw (← e, mul_assoc, w) (omega arith)) in
    record { level = omega arith; place = omega arith; is = rw place e }

place_core : (id m t : ℕ) → id ≡ (2 * m + 1) * 2 ^ t → id / 2 ^ (t + 1) ≡ m
place_core id m t e =
    let half : (2 * m + 1) / 2 ≡ m = omega arith in
    rw (e, pow-add 2 t 1, ← div-div-eq-div-mul ((2 * m + 1) * 2 ^ t) (2 ^ t) 2, shl-shr (2 * m + 1) t, half)

-- the face of a valid id bounds it
valid_cell : (id : ℕ) → valid_id id ≡ true → IsCell id (level_of id) (place_of id)
unfolding valid_id level_of place_of
valid_cell id v =
    let r = (and-eq-true_iff (leb (id / 2 ^ 61) 5) (leb (count_trailing_zeros 64 id) 60 && eqb (count_trailing_zeros 64 id % 2) 0)).0 v in
    let s = (and-eq-true_iff (leb (count_trailing_zeros 64 id) 60) (eqb (count_trailing_zeros 64 id % 2) 0)).0 r.1 in
    let face : id / 2 ^ 61 ≤ 5 = leb-true _ _ r.0 in
    let top : count_trailing_zeros 64 id ≤ 60 = leb-true _ _ s.0 in
    let pos : 0 < id = pos_of_ne-zero (λ e. let z : count_trailing_zeros 64 id ≡ 64 = ap (count_trailing_zeros 64) e ∙ trailing_of_zero 64 in omega arith) in
    let o = odd_part 64 id pos (omega arith) in
    let z : count_trailing_zeros 64 id ≡ o.1 = ap (count_trailing_zeros 64) o.3 ∙ zeros_of 64 o.1 o.0 o.2 in
    let e : id ≡ (2 * o.0 + 1) * 2 ^ count_trailing_zeros 64 id = o.3 ∙ ap (λ (n : ℕ). (2 * o.0 + 1) * 2 ^ n) (sym z) in
    let g = cell_core id o.0 (count_trailing_zeros 64 id) e face top (eqb-true _ _ s.1) in
    subst (λ (m : ℕ). IsCell id (30 - count_trailing_zeros 64 id / 2) m) (sym (place_core id o.0 (count_trailing_zeros 64 id) e)) g

pub valid_is : (id : ℕ) → valid_id id ≡ true → Cell id
valid_is id v = (level_of id, place_of id, valid_cell id v)

-- a valid id is no 0 and fits 64 bits
pub valid_fits : (id : ℕ) → valid_id id ≡ true → (0 < id) × (id < 2 ^ 64)
valid_fits id v = let c = valid_is id v in (cell_pos id c.0 c.1 c.2, omega (arith, cell_lt id c.0 c.1 c.2))

pub cell_valid : (id L p : ℕ) → IsCell id L p → valid_id id ≡ true
unfolding valid_id
cell_valid id L p c =
    let z : count_trailing_zeros 64 id ≡ place_at L = ap (count_trailing_zeros 64) c.is ∙ zeros_id L p in
    let f : id / 2 ^ 61 ≤ 5 = omega (arith, cell_lt id L p c) in
    let e : place_at L % 2 ≡ 0 = omega arith in
    rw (z, le-leb (id / 2 ^ 61) 5 f, le-leb (place_at L) 60 (omega arith), eq-eqb (place_at L % 2) 0 e)

-- the p-th cell of a level is a cell
pub is_cell : (L p : ℕ) → L ≤ 30 → p < 6 * 2 ^ (2 * L) → IsCell (id_of L p) L p
is_cell L p h g = record { level = h; place = g; is = refl }

pub cell_unique : (id L p M q : ℕ) → IsCell id L p → IsCell id M q → (L ≡ M) × (p ≡ q)
cell_unique id L p M q c d = (
  sym (level_id L p c.level) ∙ ap level_of (sym c.is ∙ d.is) ∙ level_id M q d.level,
  sym (place_id L p) ∙ ap place_of (sym c.is ∙ d.is) ∙ place_id M q,
)

-- ---- which cell contains another

-- 2pDC < (2q + 1)C < (2p + 2)DC says that q / D is p
module _ (p q D C : ℕ) (c : 0 < C) (d : 0 < D) where
  under→ : 2 * (p * (D * C)) + 1 ≤ (2 * q + 1) * C → (2 * q + 1) * C + 1 ≤ 2 * (p * (D * C)) + 2 * (D * C) → q / D ≡ p
  under→ lo hi =
      let a : 2 * (p * D) * C ≡ 2 * (p * (D * C)) = rw (mul_assoc, mul_assoc) in
      let b : (2 * (p * D) + 2 * D) * C ≡ 2 * (p * (D * C)) + 2 * (D * C) = add-mul (2 * (p * D)) (2 * D) C ∙ rw (a, mul_assoc) in
      let l : 2 * (p * D) < 2 * q + 1 = lt_of_mul-lt-mul_right C (omega (arith, a)) in
      let u : 2 * q + 1 < 2 * (p * D) + 2 * D = lt_of_mul-lt-mul_right C (omega (arith, b)) in
      div-eq_of_lt-le D (omega arith) (omega (arith, add-mul p 1 D, one-mul D))

  under← : q / D ≡ p → (2 * (p * (D * C)) + 1 ≤ (2 * q + 1) * C) × ((2 * q + 1) * C + 1 ≤ 2 * (p * (D * C)) + 2 * (D * C))
  under← e =
      let a : 2 * (p * D) * C ≡ 2 * (p * (D * C)) = rw (mul_assoc, mul_assoc) in
      let b : (2 * (p * D) + 2 * D) * C ≡ 2 * (p * (D * C)) + 2 * (D * C) = add-mul (2 * (p * D)) (2 * D) C ∙ rw (a, mul_assoc) in
      let l : p * D ≤ q = rw (← e) (div-mul-le_self q D) in
      let u : q < p * D + D = rw (← e) (lt-div-mul-add d) in
      let l' : 2 * (p * D) * C < (2 * q + 1) * C = mul-lt-mul_of_pos_right (omega arith) c in
      let u' : (2 * q + 1) * C < (2 * (p * D) + 2 * D) * C = mul-lt-mul_of_pos_right (omega arith) c in
      (omega (arith, a), omega (arith, b))

-- a cell holds one k levels below it exactly where the places say so
pub holds_id : (L k p q : ℕ) → L + k ≤ 30 → holds (id_of L p) (id_of (L + k) q) ≡ eqb (q / 2 ^ (2 * k)) p
unfolding holds
holds_id L k p q h =
    let C = bit_at (L + k) in
    let D = 2 ^ (2 * k) in
    let c = pow_pos (place_at (L + k)) in
    let d = pow_pos (2 * k) in
    let e : id_of (L + k) q ≡ (2 * q + 1) * C = unfold id_of in refl in
    let f : first_leaf (id_of L p) ≡ 2 * (p * (D * C)) + 1 = first_id L p ∙ rw (bit_up L k h) in
    let g : last_leaf (id_of L p) + 1 ≡ 2 * (p * (D * C)) + 2 * (D * C) = last_id L p ∙ rw (bit_up L k h) in
    bool_iff _ _
    (λ t. let r = (and-eq-true_iff (leb (first_leaf (id_of L p)) (id_of (L + k) q)) (leb (id_of (L + k) q) (last_leaf (id_of L p)))).0 t in
    let lo : first_leaf (id_of L p) ≤ id_of (L + k) q = leb-true _ _ r.0 in
    let hi : id_of (L + k) q ≤ last_leaf (id_of L p) = leb-true _ _ r.1 in
    eq-eqb _ _ (under→ p q D C c d (omega (arith, f, e, lo)) (omega (arith, g, e, hi))))
    (λ t. let r = under← p q D C c d (eqb-true _ _ t) in
    rw (le-leb (first_leaf (id_of L p)) (id_of (L + k) q) (omega (arith, f, e, r.0)), le-leb (id_of (L + k) q) (last_leaf (id_of L p)) (omega (arith, g, e, r.1))))

omega_four : (x : ℕ) → x * 4 ≡ 2 * (2 * x)
omega_four x = omega arith

-- no even multiple of C stands strictly between 2qC and (2q + 2)C
between : (X q C : ℕ) → 2 * (q * C) + 1 ≤ 2 * X * C → 2 * X * C + 1 ≤ 2 * (q * C) + 2 * C → ⊥
between X q C lo hi =
    let a : 2 * X * C ≡ 2 * (X * C) = mul_assoc 2 X C in
    let l : q < X = lt_of_mul-lt-mul_right C (omega (arith, a)) in
    let u : X < q + 1 = lt_of_mul-lt-mul_right C (omega (arith, a, add-mul q 1 C, one-mul C)) in
    omega arith

even_id : (L k p : ℕ) → L + suc k ≤ 30 → id_of L p ≡ (2 * ((2 * p + 1) * (2 * 2 ^ (2 * k)))) * bit_at (L + suc k)
unfolding id_of
even_id L k p h =
    let d : 2 ^ (2 * suc k) ≡ 2 * (2 * 2 ^ (2 * k)) = ap (λ (n : ℕ). 2 ^ n) (mul-suc 2 k) ∙ pow-add 2 (2 * k) 2 ∙ omega_four (2 ^ (2 * k)) in
    rw (bit_up L (suc k) h, d, ← mul_assoc (2 * p + 1) (2 * (2 * 2 ^ (2 * k))) (bit_at (L + suc k)), mul_left_comm (2 * p + 1) 2 (2 * 2 ^ (2 * k)))

-- the other way up: a smaller cell holds none that is k + 1 levels above it
pub holds_not : (L k p q : ℕ) → L + suc k ≤ 30 → holds (id_of (L + suc k) q) (id_of L p) ≡ false
unfolding holds
holds_not L k p q h =
    let C = bit_at (L + suc k) in
    let F = 2 * 2 ^ (2 * k) in
    let e : id_of L p ≡ (2 * ((2 * p + 1) * F)) * C = even_id L k p h in
    no_true _ (λ t.
    let r = (and-eq-true_iff (leb (first_leaf (id_of (L + suc k) q)) (id_of L p)) (leb (id_of L p) (last_leaf (id_of (L + suc k) q)))).0 t in
    let lo : first_leaf (id_of (L + suc k) q) ≤ id_of L p = leb-true _ _ r.0 in
    let hi : id_of L p ≤ last_leaf (id_of (L + suc k) q) = leb-true _ _ r.1 in
    between ((2 * p + 1) * F) q C
    (omega (arith, lo, e, first_id (L + suc k) q))
    (omega (arith, hi, e, last_id (L + suc k) q)))

-- ---- which cell intersects another: the same as contains, from the higher of the two

module _ (p q D C : ℕ) (c : 0 < C) (d : 0 < D) where
  share→ : q * C < p * (D * C) + D * C → p * (D * C) < q * C + C → q / D ≡ p
  share→ hi lo =
      let a : p * D * C ≡ p * (D * C) = mul_assoc p D C in
      let u : q < p * D + D = lt_of_mul-lt-mul_right C (omega (arith, a, add-mul (p * D) D C)) in
      let l : p * D < q + 1 = lt_of_mul-lt-mul_right C (omega (arith, a, add-mul q 1 C, one-mul C)) in
      div-eq_of_lt-le D (omega arith) (omega (arith, add-mul p 1 D, one-mul D))

pub meets_id : (L k p q : ℕ) → L + k ≤ 30 → meets (id_of L p) (id_of (L + k) q) ≡ eqb (q / 2 ^ (2 * k)) p
unfolding meets
meets_id L k p q h =
    let C = bit_at (L + k) in
    let D = 2 ^ (2 * k) in
    let c = pow_pos (place_at (L + k)) in
    let d = pow_pos (2 * k) in
    let fa : first_leaf (id_of L p) ≡ 2 * (p * (D * C)) + 1 = first_id L p ∙ rw (bit_up L k h) in
    let la : last_leaf (id_of L p) + 1 ≡ 2 * (p * (D * C)) + 2 * (D * C) = last_id L p ∙ rw (bit_up L k h) in
    let fb = first_id (L + k) q in
    let lb = last_id (L + k) q in
    bool_iff _ _
    (λ t. let r = (and-eq-true_iff (leb (first_leaf (id_of (L + k) q)) (last_leaf (id_of L p))) (leb (first_leaf (id_of L p)) (last_leaf (id_of (L + k) q)))).0 t in
    let x : first_leaf (id_of (L + k) q) ≤ last_leaf (id_of L p) = leb-true _ _ r.0 in
    let y : first_leaf (id_of L p) ≤ last_leaf (id_of (L + k) q) = leb-true _ _ r.1 in
    eq-eqb _ _ (share→ p q D C c d (omega (arith, fb, la, x)) (omega (arith, fa, lb, y))))
    (λ t. let r = under← p q D C c d (eqb-true _ _ t) in
    let o = odd_mul q C in
    rw (le-leb (first_leaf (id_of (L + k) q)) (last_leaf (id_of L p)) (omega (arith, fb, la, r.1, o)), le-leb (first_leaf (id_of L p)) (last_leaf (id_of (L + k) q)) (omega (arith, fa, lb, r.0, o))))

-- ---- a test counted

pub one_le : (b : Bool) → one b ≤ 1
unfolding one
one_le true = omega arith
one_le false = omega arith
