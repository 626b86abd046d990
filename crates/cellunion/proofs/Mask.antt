-- The test for four siblings by exclusive or and mask.
use mathlib.Core.Path.{◌≡◌, sym, ap, ap₂, ◌∙◌, subst}
use mathlib.Core.Bool.{true, false, and-eq-true_iff}
use Prim.Native.Nat.{ℕ, ◌+◌, ◌-◌, ◌*◌, ◌/◌, ◌%◌, ◌^◌, ◌≤◌, ◌<◌}
use native.Mathlib.Nat.{add-mul, one-mul, mul_comm, mul_left_comm, add-zero, mod-lt, mod-mod, div-add-mod', lt_of_mul-lt-mul_right}
use native.Mathlib.Omega.{arith}
use lib.Pow.{pow_pos, pow-add, shr_mod}
use lib.Bits.{bit_and, bit_xor, and_mask, and_high, and_block, xor_block, xor_self}
use lib.Dec.{ltb}
use borrow.Author.Tests.{ltb-true}
use Rattle.cellid.specs.CellId.{Cell, IsCell, id_of, place_at, low_bit, level_of, child_of}
use Rattle.cellid.proofs.Laws.{odd_mul, low_cell, level_cell, cell_lt, no_true, bool_iff}
use Rattle.cellid.proofs.Leaves.{child_cell}
use Rattle.cellunion.specs.CellUnion.{is_four, up_one}
use Rattle.cellunion.proofs.Stack.{four→, four←, up_is}

-- ---- numbers

-- one quotient and one rest
same_parts : (u v r s B : ℕ) → r < B → s < B → u * B + r ≡ v * B + s → (u ≡ v) × (r ≡ s)
same_parts u v r s B h g e =
    let a : u < v + 1 = lt_of_mul-lt-mul_right B (omega (arith, add-mul v 1 B, one-mul B)) in
    let b : v < u + 1 = lt_of_mul-lt-mul_right B (omega (arith, add-mul u 1 B, one-mul B)) in
    let q : u ≡ v = omega arith in
    (q, omega (arith, ap (λ (x : ℕ). x * B) q))

mask_is : (j k : ℕ) → (2 ^ (j + 2 + k) - 1) - 3 * 2 ^ k ≡ (2 ^ (j + 2) - 2 ^ 2) * 2 ^ k + (2 ^ k - 1)
mask_is j k =
    let a : 2 ^ (j + 2 + k) ≡ 2 ^ (j + 2) * 2 ^ k = pow-add 2 (j + 2) k in
    let b : 2 ^ (j + 2) ≡ 2 ^ j * 4 = pow-add 2 j 2 in
    let c : (2 ^ (j + 2) - 2 ^ 2 + 4) * 2 ^ k ≡ (2 ^ (j + 2) - 2 ^ 2) * 2 ^ k + 4 * 2 ^ k = add-mul (2 ^ (j + 2) - 2 ^ 2) 4 (2 ^ k) in
    let d : 2 ^ (j + 2) - 2 ^ 2 + 4 ≡ 2 ^ (j + 2) = omega (arith, pow_pos j) in
    omega (arith, ap (λ (x : ℕ). x * 2 ^ k) d, pow_pos k)

-- all but the places k and k + 1
mask_and : (j k x : ℕ) → x < 2 ^ (j + 2 + k) → bit_and x ((2 ^ (j + 2 + k) - 1) - 3 * 2 ^ k) ≡ (x / 2 ^ k / 4 * 4) * 2 ^ k + x % 2 ^ k
mask_and j k x h =
    let e : x ≡ x / 2 ^ k * 2 ^ k + x % 2 ^ k = sym (div-add-mod' x (2 ^ k)) in
    let up : x / 2 ^ k % 2 ^ (j + 2) ≡ x / 2 ^ k = shr_mod (j + 2) k h in
    let top : x / 2 ^ k < 2 ^ (j + 2) = subst (λ (n : ℕ). n < 2 ^ (j + 2)) up (mod-lt (x / 2 ^ k) (pow_pos (j + 2))) in
    let q : x / 2 ^ k / 2 ^ 2 % 2 ^ j ≡ x / 2 ^ k / 2 ^ 2 = shr_mod j 2 top in
    ap₂ bit_and e (mask_is j k)
    ∙ and_block k (x / 2 ^ k) (2 ^ (j + 2) - 2 ^ 2) (x % 2 ^ k) (2 ^ k - 1) (mod-lt x (pow_pos k)) (omega (arith, pow_pos k))
    ∙ ap₂ (λ (a b : ℕ). a * 2 ^ k + b) (and_high (x / 2 ^ k) j 2 ∙ ap (λ (n : ℕ). n * 2 ^ 2) q) (and_mask (x % 2 ^ k) k ∙ mod-mod x (2 ^ k))

-- with t the place of the lowest bit, at 64 bits
mask_at : (t x : ℕ) → t ≤ 60 → x < 2 ^ 64 → bit_and x ((2 ^ 64 - 1) - 6 * 2 ^ t) ≡ (x / 2 ^ (t + 1) / 4 * 4) * 2 ^ (t + 1) + x % 2 ^ (t + 1)
mask_at t x h g =
    let n : (61 - t) + 2 + (t + 1) ≡ 64 = omega arith in
    let a : 6 * 2 ^ t ≡ 3 * 2 ^ (t + 1) = omega (arith, pow-add 2 t 1) in
    ap (λ (y : ℕ). bit_and x ((2 ^ 64 - 1) - y)) a
    ∙ ap (λ (w : ℕ). bit_and x ((2 ^ w - 1) - 3 * 2 ^ (t + 1))) (sym n)
    ∙ mask_and (61 - t) (t + 1) x (subst (λ (w : ℕ). x < 2 ^ w) (sym n) g)

-- an odd multiple of 2 ^ t, taken apart
odd_parts : (j t : ℕ) → ((2 * j + 1) * 2 ^ t / 2 ^ (t + 1) ≡ j) × ((2 * j + 1) * 2 ^ t % 2 ^ (t + 1) ≡ 2 ^ t)
odd_parts j t =
    let x = (2 * j + 1) * 2 ^ t in
    let e : x / 2 ^ (t + 1) * 2 ^ (t + 1) + x % 2 ^ (t + 1) ≡ x = div-add-mod' x (2 ^ (t + 1)) in
    let w : 2 ^ (t + 1) ≡ 2 ^ t * 2 = pow-add 2 t 1 in
    let v : j * 2 ^ (t + 1) ≡ 2 * (j * 2 ^ t) = ap (λ (y : ℕ). j * y) (w ∙ mul_comm (2 ^ t) 2) ∙ mul_left_comm j 2 (2 ^ t) in
    same_parts (x / 2 ^ (t + 1)) j (x % 2 ^ (t + 1)) (2 ^ t) (2 ^ (t + 1)) (mod-lt x (pow_pos (t + 1))) (omega (arith, pow_pos t)) (omega (arith, odd_mul j (2 ^ t)))

mask_odd : (j t : ℕ) → t ≤ 60 → (2 * j + 1) * 2 ^ t < 2 ^ 64 → bit_and ((2 * j + 1) * 2 ^ t) ((2 ^ 64 - 1) - 6 * 2 ^ t) ≡ (j / 4 * 4) * 2 ^ (t + 1) + 2 ^ t
mask_odd j t h g = mask_at t ((2 * j + 1) * 2 ^ t) h g ∙ rw ((odd_parts j t).0, (odd_parts j t).1)

-- what agrees with (2q + 1) 2 ^ t outside the two bits
mask_same : (x q t : ℕ) → t ≤ 60 → x < 2 ^ 64 → (2 * q + 1) * 2 ^ t < 2 ^ 64
    → bit_and x ((2 ^ 64 - 1) - 6 * 2 ^ t) ≡ bit_and ((2 * q + 1) * 2 ^ t) ((2 ^ 64 - 1) - 6 * 2 ^ t) → (j : ℕ) × (x ≡ (2 * j + 1) * 2 ^ t) × (j / 4 ≡ q / 4)
mask_same x q t h g c e =
    let B = 2 ^ (t + 1) in
    let w : 2 ^ (t + 1) ≡ 2 ^ t * 2 = pow-add 2 t 1 in
    let r = same_parts (x / B / 4 * 4) (q / 4 * 4) (x % B) (2 ^ t) B (mod-lt x (pow_pos (t + 1))) (omega (arith, pow_pos t)) (sym (mask_at t x h g) ∙ e ∙ mask_odd q t h c) in
    let f : x / B * B + x % B ≡ x = div-add-mod' x B in
    let v : x / B * B ≡ 2 * (x / B * 2 ^ t) = ap (λ (y : ℕ). x / B * y) (w ∙ mul_comm (2 ^ t) 2) ∙ mul_left_comm (x / B) 2 (2 ^ t) in
    (x / B, omega (arith, r.1, odd_mul (x / B) (2 ^ t)), omega (arith, r.0))

-- ---- exclusive or

xor_scale : (t a b : ℕ) → bit_xor (a * 2 ^ t) (b * 2 ^ t) ≡ bit_xor a b * 2 ^ t
xor_scale t a b =
    ap₂ bit_xor (sym (add-zero (a * 2 ^ t))) (sym (add-zero (b * 2 ^ t))) ∙ xor_block t a b 0 0 (pow_pos t) (pow_pos t) ∙ add-zero (bit_xor a b * 2 ^ t)

xor_kids : (p : ℕ) → bit_xor (bit_xor (bit_xor (2 * (4 * p + 0) + 1) (2 * (4 * p + 1) + 1)) (2 * (4 * p + 2) + 1)) (2 * (4 * p + 3) + 1) ≡ 0
xor_kids p =
    let e0 : 2 * (4 * p + 0) + 1 ≡ p * 2 ^ 3 + 1 = omega arith in
    let e1 : 2 * (4 * p + 1) + 1 ≡ p * 2 ^ 3 + 3 = omega arith in
    let e2 : 2 * (4 * p + 2) + 1 ≡ p * 2 ^ 3 + 5 = omega arith in
    let e3 : 2 * (4 * p + 3) + 1 ≡ p * 2 ^ 3 + 7 = omega arith in
    let a : bit_xor (2 * (4 * p + 0) + 1) (2 * (4 * p + 1) + 1) ≡ 2 = ap₂ bit_xor e0 e1 ∙ xor_block 3 p p 1 3 (omega arith) (omega arith) ∙ ap (λ (x : ℕ). x * 2 ^ 3 + 2) (xor_self p) in
    let b : bit_xor 2 (2 * (4 * p + 2) + 1) ≡ p * 2 ^ 3 + 7 = ap (bit_xor 2) e2 ∙ xor_block 3 0 p 2 5 (omega arith) (omega arith) in
    rw (a, b, e3) (xor_self (p * 2 ^ 3 + 7))

xor_four : (p t : ℕ) → bit_xor (bit_xor (bit_xor ((2 * (4 * p + 0) + 1) * 2 ^ t) ((2 * (4 * p + 1) + 1) * 2 ^ t)) ((2 * (4 * p + 2) + 1) * 2 ^ t)) ((2 * (4 * p + 3) + 1) * 2 ^ t) ≡ 0
xor_four p t = rw (
  xor_scale t (2 * (4 * p + 0) + 1) (2 * (4 * p + 1) + 1),
  xor_scale t (bit_xor (2 * (4 * p + 0) + 1) (2 * (4 * p + 1) + 1)) (2 * (4 * p + 2) + 1),
  xor_scale t (bit_xor (bit_xor (2 * (4 * p + 0) + 1) (2 * (4 * p + 1) + 1)) (2 * (4 * p + 2) + 1)) (2 * (4 * p + 3) + 1),
  xor_kids p,
) (omega arith)

-- ---- the test

abbrev pub mask_of : ℕ → ℕ
mask_of c = (2 ^ 64 - 1) - 6 * low_bit c

pub record Looks (x y z c : ℕ) : Type 0 where
  pub xor : bit_xor (bit_xor (bit_xor x y) z) c ≡ 0
  pub like0 : bit_and x (mask_of c) ≡ bit_and c (mask_of c)
  pub like1 : bit_and y (mask_of c) ≡ bit_and c (mask_of c)
  pub like2 : bit_and z (mask_of c) ≡ bit_and c (mask_of c)

looks_core : (t p x y z c b : ℕ) → t ≤ 60 → b ≡ 2 ^ t → c < 2 ^ 64 → x ≡ (2 * (4 * p + 0) + 1) * 2 ^ t → y ≡ (2 * (4 * p + 1) + 1) * 2 ^ t → z ≡ (2 * (4 * p + 2) + 1) * 2 ^ t → c ≡ (2 * (4 * p + 3) + 1) * 2 ^ t
    → (bit_xor (bit_xor (bit_xor x y) z) c ≡ 0) × (bit_and x ((2 ^ 64 - 1) - 6 * b) ≡ bit_and c ((2 ^ 64 - 1) - 6 * b)) × (bit_and y ((2 ^ 64 - 1) - 6 * b) ≡ bit_and c ((2 ^ 64 - 1) - 6 * b)) × (bit_and z ((2 ^ 64 - 1) - 6 * b) ≡ bit_and c ((2 ^ 64 - 1) - 6 * b))
looks_core t p x y z c b h eb l e0 e1 e2 e3 =
    let q0 : (4 * p + 0) / 4 ≡ p = omega arith in
    let q1 : (4 * p + 1) / 4 ≡ p = omega arith in
    let q2 : (4 * p + 2) / 4 ≡ p = omega arith in
    let q3 : (4 * p + 3) / 4 ≡ p = omega arith in
    let l3 : (2 * (4 * p + 3) + 1) * 2 ^ t < 2 ^ 64 = subst (λ (n : ℕ). n < 2 ^ 64) e3 l in
    let l0 : (2 * (4 * p + 0) + 1) * 2 ^ t < 2 ^ 64 = omega (arith, odd_mul (4 * p + 0) (2 ^ t), odd_mul (4 * p + 3) (2 ^ t), add-mul (4 * p) 0 (2 ^ t), add-mul (4 * p) 3 (2 ^ t)) in
    let l1 : (2 * (4 * p + 1) + 1) * 2 ^ t < 2 ^ 64 = omega (arith, odd_mul (4 * p + 1) (2 ^ t), odd_mul (4 * p + 3) (2 ^ t), add-mul (4 * p) 1 (2 ^ t), add-mul (4 * p) 3 (2 ^ t), one-mul (2 ^ t)) in
    let l2 : (2 * (4 * p + 2) + 1) * 2 ^ t < 2 ^ 64 = omega (arith, odd_mul (4 * p + 2) (2 ^ t), odd_mul (4 * p + 3) (2 ^ t), add-mul (4 * p) 2 (2 ^ t), add-mul (4 * p) 3 (2 ^ t)) in
    rw (e0, e1, e2, e3, eb) (
      xor_four p t,
      mask_odd (4 * p + 0) t h l0 ∙ rw (q0, mask_odd (4 * p + 3) t h l3, q3),
      mask_odd (4 * p + 1) t h l1 ∙ rw (q1, mask_odd (4 * p + 3) t h l3, q3),
      mask_odd (4 * p + 2) t h l2 ∙ rw (q2, mask_odd (4 * p + 3) t h l3, q3),
    )

id_odd : {id L p : ℕ} → IsCell id L p → id ≡ (2 * p + 1) * 2 ^ place_at L
unfolding id_of
id_odd c = c.is

pub four_looks : {x y z c : ℕ} → Cell c → is_four x y z c ≡ true → Looks x y z c
four_looks {x} {y} {z} {c} C e =
    let F = four→ C e in
    let L = F.L in
    let K0 = child_cell 0 F.cell F.small (omega arith) in
    let K1 = child_cell 1 F.cell F.small (omega arith) in
    let K2 = child_cell 2 F.cell F.small (omega arith) in
    let K3 = child_cell 3 F.cell F.small (omega arith) in
    let b : low_bit c ≡ 2 ^ place_at (L + 1) = ap low_bit F.is3 ∙ low_cell (child_of (up_one c) 3) (L + 1) (4 * F.p + 3) K3 in
    let l : c < 2 ^ 64 = omega (arith, cell_lt c C.0 C.1 C.2) in
    let r = looks_core (place_at (L + 1)) F.p x y z c (low_bit c) (omega arith) b l (F.is0 ∙ id_odd K0) (F.is1 ∙ id_odd K1) (F.is2 ∙ id_odd K2) (F.is3 ∙ id_odd K3) in
    record { xor = r.0; like0 = r.1; like1 = r.2; like2 = r.3 }

-- four that ascend and agree outside the two bits are all there are
lt_core : (a b C : ℕ) → (2 * a + 1) * C < (2 * b + 1) * C → a < b
lt_core a b C h = let e : 2 * a + 1 < 2 * b + 1 = lt_of_mul-lt-mul_right C h in omega arith

pub looks_four : (x y z c : ℕ) → Cell c → x < y → y < z → z < c → bit_and x (mask_of c) ≡ bit_and c (mask_of c) → bit_and y (mask_of c) ≡ bit_and c (mask_of c) → bit_and z (mask_of c) ≡ bit_and c (mask_of c) → 0 < level_of c → is_four x y z c ≡ true
looks_four x y z c C h g f e0 e1 e2 l =
    let lv : level_of c ≡ C.0 = level_cell c C.0 C.1 C.2 in
    let s : C.0 ≡ (C.0 - 1) + 1 = omega arith in
    looks_at x y z c (C.0 - 1) C.1 (subst (λ (n : ℕ). IsCell c n C.1) s C.2) h g f e0 e1 e2
  where
    four_places : (a b d q : ℕ) → a < b → b < d → d < q → a / 4 ≡ q / 4 → b / 4 ≡ q / 4 → d / 4 ≡ q / 4 → (a ≡ 4 * (q / 4) + 0) × (b ≡ 4 * (q / 4) + 1) × (d ≡ 4 * (q / 4) + 2) × (q ≡ 4 * (q / 4) + 3)
    four_places a b d q h g f e0 e1 e2 = (omega arith, omega arith, omega arith, omega arith)

    looks_at : (x y z c L q : ℕ) → IsCell c (L + 1) q → x < y → y < z → z < c → bit_and x (mask_of c) ≡ bit_and c (mask_of c) → bit_and y (mask_of c) ≡ bit_and c (mask_of c) → bit_and z (mask_of c) ≡ bit_and c (mask_of c) → is_four x y z c ≡ true
    looks_at x y z c L q I h g f e0 e1 e2 =
        let t = place_at (L + 1) in
        let b : low_bit c ≡ 2 ^ t = low_cell c (L + 1) q I in
        let l : c < 2 ^ 64 = omega (arith, cell_lt c (L + 1) q I) in
        let ic : c ≡ (2 * q + 1) * 2 ^ t = id_odd I in
        let lq : (2 * q + 1) * 2 ^ t < 2 ^ 64 = subst (λ (n : ℕ). n < 2 ^ 64) ic l in
        let at : (w : ℕ) → w < 2 ^ 64 → bit_and w (mask_of c) ≡ bit_and c (mask_of c) → (j : ℕ) × (w ≡ (2 * j + 1) * 2 ^ t) × (j / 4 ≡ q / 4) =
        λ w v e. mask_same w q t (omega arith) v lq (ap (λ (n : ℕ). bit_and w ((2 ^ 64 - 1) - 6 * n)) (sym b) ∙ e ∙ ap₂ (λ (n m : ℕ). bit_and n ((2 ^ 64 - 1) - 6 * m)) ic b) in
        let r0 = at x (omega arith) e0 in
        let r1 = at y (omega arith) e1 in
        let r2 = at z (omega arith) e2 in
        let s = four_places r0.0 r1.0 r2.0 q (lt_core _ _ (2 ^ t) (omega (arith, r0.1, r1.1))) (lt_core _ _ (2 ^ t) (omega (arith, r1.1, r2.1))) (lt_core _ _ (2 ^ t) (omega (arith, r2.1, ic))) r0.2 r1.2 r2.2 in
        let U = up_is I in
        let small : L < 30 = omega (arith, I.level) in
        four← {x = x} {y = y} {z = z} {c = c} U small
        (r0.1 ∙ ap (λ (n : ℕ). (2 * n + 1) * 2 ^ t) s.0 ∙ sym (id_odd (child_cell 0 U small (omega arith))))
        (r1.1 ∙ ap (λ (n : ℕ). (2 * n + 1) * 2 ^ t) s.1 ∙ sym (id_odd (child_cell 1 U small (omega arith))))
        (r2.1 ∙ ap (λ (n : ℕ). (2 * n + 1) * 2 ^ t) s.2 ∙ sym (id_odd (child_cell 2 U small (omega arith))))
        (ic ∙ ap (λ (n : ℕ). (2 * n + 1) * 2 ^ t) s.3 ∙ sym (id_odd (child_cell 3 U small (omega arith))))

pub no_four : (x y z c : ℕ) → Cell c → (Looks x y z c → ⊥) → false ≡ is_four x y z c
no_four x y z c C f = sym (no_true (is_four x y z c) (λ e. f (four_looks C e)))

pub mask_code : (r b : ℕ) → r ≡ b → b ≤ 2 ^ 60 → (2 ^ 64 - 1) - ((r * 2) % 2 ^ 64 + (((r * 2) % 2 ^ 64) * 2) % 2 ^ 64) ≡ (2 ^ 64 - 1) - 6 * b
mask_code r b e h =
    let m1 : (r * 2) % 2 ^ 64 ≡ 2 * b = omega arith in
    let m2 : (2 * b * 2) % 2 ^ 64 ≡ 4 * b = omega arith in
    rw (m1, m2) (omega arith)

module _ (x y z c m : ℕ) (C : Cell c) (e : m ≡ mask_of c) where
  like : (w : ℕ) → bit_and w (mask_of c) ≡ bit_and c (mask_of c) → bit_and w m ≡ bit_and c m
  like w h = ap (bit_and w) e ∙ h ∙ sym (ap (bit_and c) e)

  like← : (w : ℕ) → bit_and w m ≡ bit_and c m → bit_and w (mask_of c) ≡ bit_and c (mask_of c)
  like← w h = sym (ap (bit_and w) e) ∙ h ∙ ap (bit_and c) e

  pub no_like0 : (bit_and x m ≡ bit_and c m → ⊥) → false ≡ is_four x y z c
  no_like0 f = no_four x y z c C (λ l. f (like x l.like0))

  pub no_like1 : (bit_and y m ≡ bit_and c m → ⊥) → false ≡ is_four x y z c
  no_like1 f = no_four x y z c C (λ l. f (like y l.like1))

  pub no_like2 : (bit_and z m ≡ bit_and c m → ⊥) → false ≡ is_four x y z c
  no_like2 f = no_four x y z c C (λ l. f (like z l.like2))

face_no : (x y z c : ℕ) → is_four x y z c ≡ true → ltb 0 (level_of c) ≡ true
unfolding is_four
face_no x y z c t = ((and-eq-true_iff (ltb 0 (level_of c)) _).0 t).0

pub level_test : (x y z c m l : ℕ) → Cell c → m ≡ mask_of c → l ≡ level_of c → x < y → y < z → z < c → bit_and x m ≡ bit_and c m → bit_and y m ≡ bit_and c m → bit_and z m ≡ bit_and c m
    → ltb 0 l ≡ is_four x y z c
level_test x y z c m l C e k h g f e0 e1 e2 = ap (ltb 0) k ∙ bool_iff _ _
    (λ t. looks_four x y z c C h g f (like← x y z c m C e x e0) (like← x y z c m C e y e1) (like← x y z c m C e z e2) (ltb-true _ _ t))
    (λ t. face_no x y z c t)
