-- An id's parts: a face, two bits a level, a single one, zeros; the cells are exactly the numbers so made, and exactly the valid ids; faces and leaves.
use Rattle.std.proofs.Common.{◌≡◌, ℕ, zero, suc, ◌+◌, ◌-◌, ◌*◌, ◌/◌, ◌%◌, ◌^◌, ◌<◌, ◌≤◌, true, ◌↔◌, sym, refl, ap, ◌∙◌, mul_assoc, mul_comm, add-mul, mul-one, mul_left_comm, arith, pow-add, eq-eqb, le-leb}
use native.Mathlib.Nat.{div-div-eq-div-mul}
use lib.Count.{count_trailing_zeros}
use Rattle.cellid.specs.CellId.{Cell, IsCell, Spelt, spell, id_of, bit_at, place_at, face_of, pair_of, place_of, valid_id, face_cell, child_of}
use Rattle.cellid.proofs.Laws.{odd_mul, pow_pair, place_id, zeros_id, zeros_of, valid_is, cell_valid, cell_lt}
use Rattle.cellid.proofs.Leaves.{child_cell}

-- ---- the face and the pairs, as one number: the place

unfoldable pub place_from : ℕ → (ℕ → ℕ) → ℕ → ℕ
place_from f d zero = f
place_from f d (suc k) = 4 * place_from f d k + d (suc k)

-- one pair of bits further down
next_pair : (k : ℕ) → k < 30 → 2 ^ (2 * (30 - k) + 1) ≡ 4 * 2 ^ (2 * (29 - k) + 1)
next_pair k h = let e : 2 * (30 - k) + 1 ≡ 2 + (2 * (29 - k) + 1) = omega arith in ap (λ (n : ℕ). 2 ^ n) e ∙ pow-add 2 2 (2 * (29 - k) + 1)

spell_is : (f : ℕ) (d : ℕ → ℕ) (k : ℕ) → k ≤ 30 → spell f d k ≡ place_from f d k * 2 ^ (2 * (30 - k) + 1)
unfolding spell place_from
spell_is f d zero h = refl
spell_is f d (suc k) h =
    let X = 2 ^ (2 * (29 - k) + 1) in
    let e : 2 * (30 - suc k) + 1 ≡ 2 * (29 - k) + 1 = omega arith in
    let g : spell f d k ≡ 4 * place_from f d k * X = spell_is f d k (omega arith) ∙ ap (λ (n : ℕ). place_from f d k * n) (next_pair k (omega arith))
    ∙ sym (mul_assoc (place_from f d k) 4 X) ∙ ap (λ (n : ℕ). n * X) (mul_comm (place_from f d k) 4) in
    rw (e, g) (sym (add-mul (4 * place_from f d k) (d (suc k)) X))

place_lt : (f : ℕ) (d : ℕ → ℕ) → f ≤ 5 → ((k : ℕ) → d k < 4) → (k : ℕ) → place_from f d k < 6 * 2 ^ (2 * k)
unfolding place_from
place_lt f d h g zero = omega arith
place_lt f d h g (suc k) = omega (arith, place_lt f d h g k, g (suc k), pow_pair k (suc k) (omega arith))

one_more : (p C : ℕ) → p * (C * 2) + C ≡ (2 * p + 1) * C
one_more p C = omega (arith, odd_mul p C, mul_assoc p C 2, mul_left_comm p 2 C, mul_comm C 2, ap (λ (n : ℕ). p * n) (mul_comm C 2))

-- ---- both ways

-- a number so made is a cell of that level
pub spelt_cell : (id f : ℕ) (d : ℕ → ℕ) (L : ℕ) → Spelt id f d L → IsCell id L (place_from f d L)
unfolding id_of
spelt_cell id f d L s = record {
  level = s.level;
  place = place_lt f d s.face s.pairs L;
  is = s.is ∙ rw (spell_is f d L s.level, pow-add 2 (place_at L) 1) (one_more (place_from f d L) (bit_at L));
}

-- the bits down to a level's pair, read as a number
abbrev pub upper : ℕ → ℕ → ℕ
upper id k = id / 2 ^ (2 * (30 - k) + 1)

pub upper_step : (id k : ℕ) → k < 30 → upper id k ≡ upper id (suc k) / 4
upper_step id k h =
    let e : 2 * (30 - suc k) + 1 ≡ 2 * (29 - k) + 1 = omega arith in
    rw (e, next_pair k h, mul_comm 4 (2 ^ (2 * (29 - k) + 1))) (sym (div-div-eq-div-mul id (2 ^ (2 * (29 - k) + 1)) 4))

pub upper_place : (id L p : ℕ) → IsCell id L p → upper id L ≡ p
unfolding place_of
upper_place id L p c = rw (c.is, ← zeros_id L p) (place_id L p)

spelt_upper : (id f : ℕ) (d : ℕ → ℕ) (L : ℕ) → Spelt id f d L → (m k : ℕ) → k + m ≡ L → upper id k ≡ place_from f d k
unfolding place_from
spelt_upper id f d L s zero k e =
    let l : k ≡ L = omega arith in
    let c = spelt_cell id f d L s in
    rw l (upper_place id L (place_from f d L) c)
spelt_upper id f d L s (suc m) k e =
    upper_step id k (omega (arith, s.level)) ∙ ap (λ (n : ℕ). n / 4) (spelt_upper id f d L s m (suc k) (omega arith)) ∙ omega (arith, s.pairs (suc k))

-- and has that face and those pairs
pub spelt_face : (id f : ℕ) (d : ℕ → ℕ) (L : ℕ) → Spelt id f d L → face_of id ≡ f
unfolding place_from
spelt_face id f d L s = spelt_upper id f d L s L 0 (omega arith)

pub spelt_pair : (id f : ℕ) (d : ℕ → ℕ) (L k : ℕ) → Spelt id f d L → 0 < k → k ≤ L → pair_of id k ≡ d k
unfolding place_from
spelt_pair id f d L zero s z h = absurd (omega arith)
spelt_pair id f d L (suc k) s z h =
    ap (λ (n : ℕ). n % 4) (spelt_upper id f d L s (L - suc k) (suc k) (omega arith)) ∙ omega (arith, s.pairs (suc k))

-- the face and the pairs of any number make its upper bits
own_upper : (id k : ℕ) → k ≤ 30 → place_from (face_of id) (pair_of id) k ≡ upper id k
unfolding place_from
own_upper id zero h = refl
own_upper id (suc k) h = let e = own_upper id k (omega arith) in let u = upper_step id k (omega arith) in omega arith

-- so a cell is made of its own face and pairs, a one and zeros
pub cell_spelt : (id L p : ℕ) → IsCell id L p → Spelt id (face_of id) (pair_of id) L
unfolding id_of
cell_spelt id L p c =
    let e : place_from (face_of id) (pair_of id) L ≡ p = own_upper id L c.level ∙ upper_place id L p c in
    record {
      face = omega (arith, cell_lt id L p c);
      level = c.level;
      pairs = λ k. omega arith;
      is = c.is ∙ sym (rw (spell_is (face_of id) (pair_of id) L c.level, e, pow-add 2 (place_at L) 1) (one_more p (bit_at L)));
    }

-- ---- valid ids

-- a number's lowest set bit stands at t
abbrev pub LowestAt : ℕ → ℕ → Type 0
LowestAt id t = (m : ℕ) × (id ≡ (2 * m + 1) * 2 ^ t)

-- valid exactly where the face is at most 5 and the lowest set bit stands at an even place, 0 to 60
pub valid_bits : (id : ℕ) → (valid_id id ≡ true) ↔ ((face_of id ≤ 5) × (t : ℕ) × (t ≤ 60) × (t % 2 ≡ 0) × LowestAt id t)
unfolding valid_id id_of
valid_bits id = (
  λ v. let c = valid_is id v in
      (omega (arith, cell_lt id c.0 c.1 c.2), place_at c.0, omega arith, omega arith, (c.1, c.2.is)),
  λ r. let z : count_trailing_zeros 64 id ≡ r.1 = ap (count_trailing_zeros 64) r.4.1 ∙ zeros_of 64 r.1 r.4.0 (omega (arith, r.2)) in
      rw (z, le-leb (face_of id) 5 r.0, le-leb r.1 60 r.2, eq-eqb (r.1 % 2) 0 r.3),
)

-- valid exactly where it is a cell; of one level and one place, by `cell_unique`
pub valid_cells : (id : ℕ) → (valid_id id ≡ true) ↔ Cell id
valid_cells id = (valid_is id, λ c. cell_valid id c.0 c.1 c.2)

-- ---- faces and leaves

-- the cell of a face is the one of the level 0
pub face_cell_lem : (f : ℕ) → f < 6 → IsCell (face_cell f) 0 f
unfolding face_cell id_of
face_cell_lem f h = record { level = omega arith; place = omega arith; is = omega arith }

-- two ids that agree down to some pair have one face
pub face_same : (a b n : ℕ) → n ≤ 30 → upper a n ≡ upper b n → face_of a ≡ face_of b
face_same a b zero h e = e
face_same a b (suc n) h e =
    face_same a b n (omega arith) (upper_step a n (omega arith) ∙ ap (λ (x : ℕ). x / 4) e ∙ sym (upper_step b n (omega arith)))

-- a child lies on its parent's face
pub face_child : {id L p : ℕ} (k : ℕ) → IsCell id L p → L < 30 → k < 4 → face_of (child_of id k) ≡ face_of id
face_child {id} {L} {p} k c h g =
    let d = child_cell k c h g in
    let u : upper (child_of id k) (suc L) ≡ 4 * p + k = ap (upper (child_of id k)) (omega arith) ∙ upper_place (child_of id k) (L + 1) (4 * p + k) d in
    face_same (child_of id k) id L (omega arith) (upper_step (child_of id k) L h ∙ omega (arith, upper_place id L p c))

-- the leaf number n has the id 2n + 1
pub leaf_at : {x n : ℕ} → IsCell x 30 n → x ≡ 2 * n + 1
unfolding id_of
leaf_at {x} {n} c = c.is ∙ mul-one (2 * n + 1)

-- the leaf ids are the odd numbers, of the six faces
pub leaf_is : (w : ℕ) → ((w % 2 ≡ 1) × (w < 12 * 2 ^ 60)) ↔ IsCell w 30 (w / 2)
unfolding id_of
leaf_is w = (
  λ h. record { level = omega arith; place = omega (arith, h.1); is = omega (arith, h.0) },
  λ c. (omega (arith, c.is), omega (arith, c.is, c.place)),
)
