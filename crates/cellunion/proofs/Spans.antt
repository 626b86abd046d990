-- A cell as a stretch of leaf numbers, from lo to before hi. All list laws stand on these.
use mathlib.Core.Path.{◌≡◌, sym, ap, ap₂, ◌∙◌, subst}
use mathlib.Core.Logic.{◌⊎◌, inl, inr, ⊎_elim, by_cases}
use mathlib.Core.Bool.{true, false, and-eq-true_iff}
use Prim.Native.Nat.{ℕ, suc, ◌+◌, ◌-◌, ◌*◌, ◌^◌, ◌≤◌, ◌<◌}
use native.Mathlib.Nat.{mul-le-mul_right, add-mul, one-mul, mul_assoc, mul_comm}
use native.Mathlib.Omega.{arith}
use native.Mathlib.Decide.{ℕ_discrete}
use lib.Pow.{pow_pos, pow-lt}
use lib.Dec.{leb, ltb}
use borrow.Author.Tests.{leb-true, leb-false, le-leb, ltb-true, ltb-false}
use Rattle.cellid.specs.CellId.{Cell, IsCell, id_of, bit_at, place_at, child_of, first_leaf, last_leaf, holds, has_leaf}
use Rattle.cellid.proofs.Laws.{low_id, first_id, last_id, odd_mul, bit_up, holds_not}
use Rattle.cellid.proofs.Leaves.{child_cell}
use Rattle.cellunion.specs.CellUnion.{lo, hi}
use Rattle.order.proofs.OrderLaws.{which}

lo_id : (L p : ℕ) → lo (id_of L p) ≡ p * bit_at L
unfolding lo id_of
lo_id L p = rw (low_id L p) (omega (arith, odd_mul p (bit_at L)))

hi_id : (L p : ℕ) → hi (id_of L p) ≡ p * bit_at L + bit_at L
unfolding hi id_of
hi_id L p = rw (low_id L p) (omega (arith, odd_mul p (bit_at L)))

pub lo_is : {id L p : ℕ} → IsCell id L p → lo id ≡ p * bit_at L
lo_is {id} {L} {p} c = ap lo c.is ∙ lo_id L p

pub hi_is : {id L p : ℕ} → IsCell id L p → hi id ≡ p * bit_at L + bit_at L
hi_is {id} {L} {p} c = ap hi c.is ∙ hi_id L p

pub record Span (id : ℕ) : Type 0 where
  pub first : first_leaf id ≡ 2 * lo id + 1
  pub last : last_leaf id + 1 ≡ 2 * hi id
  pub sum : id ≡ lo id + hi id
  pub some : lo id < hi id

span_id : (L p : ℕ) → Span (id_of L p)
unfolding id_of
span_id L p = record {
  first = omega (arith, first_id L p, lo_id L p);
  last = omega (arith, last_id L p, hi_id L p);
  sum = omega (arith, odd_mul p (bit_at L), lo_id L p, hi_id L p);
  some = omega (arith, lo_id L p, hi_id L p, pow_pos (place_at L));
}

pub span : {id : ℕ} → Cell id → Span id
span {id} c = subst Span (sym c.2.is) (span_id c.0 c.1)

pub leaf→ : {id : ℕ} (n : ℕ) → Cell id → has_leaf id n ≡ true → (lo id ≤ n) × (n < hi id)
unfolding holds
leaf→ {id} n c t =
    let s = span c in
    let r = (and-eq-true_iff (leb (first_leaf id) (2 * n + 1)) (leb (2 * n + 1) (last_leaf id))).0 t in
    let a : first_leaf id ≤ 2 * n + 1 = leb-true _ _ r.0 in
    let b : 2 * n + 1 ≤ last_leaf id = leb-true _ _ r.1 in
    (omega arith, omega arith)

pub leaf← : {id : ℕ} (n : ℕ) → Cell id → lo id ≤ n → n < hi id → has_leaf id n ≡ true
unfolding holds
leaf← {id} n c a b =
    let s = span c in
    rw (le-leb (first_leaf id) (2 * n + 1) (omega arith), le-leb (2 * n + 1) (last_leaf id) (omega arith))

-- ---- two cells: one before the other, or one in the other

abbrev pub In : ℕ → ℕ → Type 0
In a b = (lo b ≤ lo a) × (hi a ≤ hi b)

pub data Nest (a b : ℕ) : Type 0 where
  left : hi a ≤ lo b → Nest a b
  right : hi b ≤ lo a → Nest a b
  inside : In a b → Nest a b
  around : In b a → Nest a b

pub turn : {a b : ℕ} → Nest a b → Nest b a
turn (left h) = right h
turn (right h) = left h
turn (inside h) = around h
turn (around h) = inside h

abbrev Three : ℕ → ℕ → ℕ → ℕ → Type 0
Three p q D C = (q * C + C ≤ p * (D * C)) ⊎ ((p * (D * C) + D * C ≤ q * C) ⊎ ((p * (D * C) ≤ q * C) × (q * C + C ≤ p * (D * C) + D * C)))

leb_up : (x y : ℕ) → leb x y ≡ false → y + 1 ≤ x
leb_up x y e = let h : y < x = leb-false x y e in omega arith

three : (p q D C : ℕ) → Three p q D C
three p q D C =
    let a : p * D * C ≡ p * (D * C) = mul_assoc p D C in
    let b : (p * D + D) * C ≡ p * D * C + D * C = add-mul (p * D) D C in
    let u : (q + 1) * C ≡ q * C + C = add-mul q 1 C ∙ ap (λ (x : ℕ). q * C + x) (one-mul C) in
    ⊎_elim
    (λ (t : leb (p * D) q ≡ true). ⊎_elim
    (λ (w : leb (p * D + D) q ≡ true). let e : p * D + D ≤ q = leb-true _ _ w in inr (inl (omega (arith, mul-le-mul_right C e))))
    (λ (w : leb (p * D + D) q ≡ false). let e : q + 1 ≤ p * D + D = leb_up _ _ w in let f : p * D ≤ q = leb-true _ _ t in
    inr (inr (omega (arith, mul-le-mul_right C f), omega (arith, mul-le-mul_right C e))))
    (which (leb (p * D + D) q)))
    (λ (t : leb (p * D) q ≡ false). let e : q + 1 ≤ p * D = leb_up _ _ t in inl (omega (arith, mul-le-mul_right C e)))
    (which (leb (p * D) q))

nest_below : {a b : ℕ} (L k p q : ℕ) → IsCell a L p → IsCell b (L + k) q → Nest a b
nest_below {a} {b} L k p q c d =
    let up : bit_at L ≡ 2 ^ (2 * k) * bit_at (L + k) = bit_up L k d.level in
    let la : lo a ≡ p * (2 ^ (2 * k) * bit_at (L + k)) = lo_is c ∙ ap (λ (x : ℕ). p * x) up in
    let ha : hi a ≡ p * (2 ^ (2 * k) * bit_at (L + k)) + 2 ^ (2 * k) * bit_at (L + k) = hi_is c ∙ ap (λ (x : ℕ). p * x + x) up in
    let lb : lo b ≡ q * bit_at (L + k) = lo_is d in
    let hb : hi b ≡ q * bit_at (L + k) + bit_at (L + k) = hi_is d in
    ⊎_elim (λ h. right (omega (arith, h))) (⊎_elim (λ h. left (omega (arith, h))) (λ h. around (omega (arith, h.0), omega (arith, h.1))))
    (three p q (2 ^ (2 * k)) (bit_at (L + k)))

-- one level is another, or lies k + 1 above or below it
pub data Levels (L M : ℕ) : Type 0 where
  deeper : (k : ℕ) → M ≡ L + suc k → Levels L M
  equal : L ≡ M → Levels L M
  higher : (k : ℕ) → L ≡ M + suc k → Levels L M

pub levels : (L M : ℕ) → Levels L M
levels L M = by_cases (ℕ_discrete L M) (λ e. equal e)
    (λ e. ⊎_elim (λ (t : ltb L M ≡ true). let h : L < M = ltb-true _ _ t in deeper (M - L - 1) (omega arith))
    (λ (t : ltb L M ≡ false). let h : M ≤ L = ltb-false _ _ t in higher (L - M - 1) (omega arith)) (which (ltb L M)))

nest_at : {a b : ℕ} (L M p q : ℕ) → IsCell a L p → IsCell b M q → Levels L M → Nest a b
nest_at {a} {b} L M p q c d (deeper k e) = nest_below L (suc k) p q c (subst (λ (n : ℕ). IsCell b n q) e d)
nest_at {a} {b} L M p q c d (equal e) = (let f : M ≡ L + 0 = omega arith in nest_below L 0 p q c (subst (λ (n : ℕ). IsCell b n q) f d))
nest_at {a} {b} L M p q c d (higher k e) = turn (nest_below M (suc k) q p d (subst (λ (n : ℕ). IsCell a n p) e c))

pub nest : {a b : ℕ} → Cell a → Cell b → Nest a b
nest c d = nest_at c.0 d.0 c.1 d.1 c.2 d.2 (levels c.0 d.0)

-- the deeper cell is the smaller
pub in_level : {a b : ℕ} (L M p q : ℕ) → IsCell a L p → IsCell b M q → In a b → M ≤ L
in_level {a} {b} L M p q c d i = ⊎_elim
    (λ (t : ltb L M ≡ true).
    let h : L < M = ltb-true _ _ t in
    let f : bit_at M < bit_at L = pow-lt {i = place_at M} {j = place_at L} (omega (arith, d.level)) in
    absurd (omega (arith, lo_is c, hi_is c, lo_is d, hi_is d, i.0, i.1)))
    (λ (t : ltb L M ≡ false). ltb-false _ _ t)
    (which (ltb L M))

-- in one another and of one level: the same
pub in_same : {a b : ℕ} (L p q : ℕ) → IsCell a L p → IsCell b L q → In a b → a ≡ b
in_same {a} {b} L p q c d i =
    let s = span (L, p, c) in
    let t = span (L, q, d) in
    omega (arith, lo_is c, hi_is c, lo_is d, hi_is d, i.0, i.1)

pub in_anti : {a b : ℕ} → Cell a → Cell b → In a b → In b a → a ≡ b
in_anti c d i j = let s = span c in let t = span d in omega (arith, i.0, i.1, j.0, j.1)

-- ---- children

-- the four children part the leaves
pub record Kids (P s : ℕ) : Type 0 where
  pub some : 0 < s
  pub lo0 : lo (child_of P 0) ≡ lo P
  pub hi0 : hi (child_of P 0) ≡ lo P + s
  pub lo1 : lo (child_of P 1) ≡ lo P + s
  pub hi1 : hi (child_of P 1) ≡ lo P + 2 * s
  pub lo2 : lo (child_of P 2) ≡ lo P + 2 * s
  pub hi2 : hi (child_of P 2) ≡ lo P + 3 * s
  pub lo3 : lo (child_of P 3) ≡ lo P + 3 * s
  pub hi3 : hi (child_of P 3) ≡ lo P + 4 * s
  pub end : hi P ≡ lo P + 4 * s

pub kids : {P L p : ℕ} → IsCell P L p → L < 30 → Kids P (bit_at (L + 1))
kids {P} {L} {p} c h =
    let C = bit_at (L + 1) in
    let up : bit_at L ≡ 4 * C = bit_up L 1 (omega arith) in
    let a : p * (4 * C) ≡ 4 * (p * C) = mul_left p C in
    let l : lo P ≡ 4 * (p * C) = lo_is c ∙ ap (λ (x : ℕ). p * x) up ∙ a in
    let r : hi P ≡ 4 * (p * C) + 4 * C = hi_is c ∙ ap (λ (x : ℕ). p * x + x) up ∙ ap (λ (x : ℕ). x + 4 * C) a in
    record {
      some = pow_pos (place_at (L + 1));
      lo0 = omega (arith, lo_is (child_cell 0 c h (omega arith)), add-mul (4 * p) 0 C, mul_assoc 4 p C);
      hi0 = omega (arith, hi_is (child_cell 0 c h (omega arith)), add-mul (4 * p) 0 C, mul_assoc 4 p C);
      lo1 = omega (arith, lo_is (child_cell 1 c h (omega arith)), add-mul (4 * p) 1 C, mul_assoc 4 p C, one-mul C);
      hi1 = omega (arith, hi_is (child_cell 1 c h (omega arith)), add-mul (4 * p) 1 C, mul_assoc 4 p C, one-mul C);
      lo2 = omega (arith, lo_is (child_cell 2 c h (omega arith)), add-mul (4 * p) 2 C, mul_assoc 4 p C);
      hi2 = omega (arith, hi_is (child_cell 2 c h (omega arith)), add-mul (4 * p) 2 C, mul_assoc 4 p C);
      lo3 = omega (arith, lo_is (child_cell 3 c h (omega arith)), add-mul (4 * p) 3 C, mul_assoc 4 p C);
      hi3 = omega (arith, hi_is (child_cell 3 c h (omega arith)), add-mul (4 * p) 3 C, mul_assoc 4 p C);
      end = omega arith;
    }
  where
    mul_left : (p C : ℕ) → p * (4 * C) ≡ 4 * (p * C)
    mul_left p C = sym (mul_assoc p 4 C) ∙ ap (λ (x : ℕ). x * C) (mul_comm p 4) ∙ mul_assoc 4 p C

kid_case : {P L p d : ℕ} (k : ℕ) → IsCell P L p → IsCell (child_of P k) (L + 1) (4 * p + k) → Cell d
    → In (child_of P k) d → In (child_of P k) P → Nest d P → (d ≡ child_of P k) ⊎ In P d
kid_case {P} {L} {p} {d} k c K e i j (left x) = let s = span (L + 1, 4 * p + k, K) in absurd (omega (arith, i.0, i.1, j.0, j.1))
kid_case {P} {L} {p} {d} k c K e i j (right x) = let s = span (L + 1, 4 * p + k, K) in absurd (omega (arith, i.0, i.1, j.0, j.1))
kid_case {P} {L} {p} {d} k c K e i j (around x) = inr x
kid_case {P} {L} {p} {d} k c K e i j (inside x) =
    let a : L ≤ e.0 = in_level e.0 L e.1 p e.2 c x in
    let b : e.0 ≤ L + 1 = in_level (L + 1) e.0 (4 * p + k) e.1 K e.2 i in
    by_cases (ℕ_discrete e.0 L)
    (λ q. let f : P ≡ d = sym (in_same L e.1 p (subst (λ (n : ℕ). IsCell d n e.1) q e.2) c x) in inr (omega (arith, ap lo f), omega (arith, ap hi f)))
    (λ q. let f : e.0 ≡ L + 1 = omega arith in inl (sym (in_same (L + 1) (4 * p + k) e.1 K (subst (λ (n : ℕ). IsCell d n e.1) f e.2) i)))

-- a cell around a child is that child, or around the parent too
pub kid_up : {P L p d : ℕ} (k : ℕ) → IsCell P L p → L < 30 → k < 4 → Cell d → In (child_of P k) d → In (child_of P k) P → (d ≡ child_of P k) ⊎ In P d
kid_up {P} {L} {p} {d} k c h g e i j = kid_case k c (child_cell k c h g) e i j (nest e (L, p, c))

-- ---- `holds` is `In`

holds_at : {a b : ℕ} (L M p q : ℕ) → IsCell a L p → IsCell b M q → holds a b ≡ true → Levels L M → In a b → In b a
holds_at L M p q c d t (deeper k e) i = absurd (omega (arith, in_level L M p q c d i))
holds_at {a} {b} L M p q c d t (equal e) i =
    let f : a ≡ b = in_same L p q c (subst (λ (n : ℕ). IsCell b n q) (sym e) d) i in
    (omega (arith, ap lo f), omega (arith, ap hi f))
holds_at {a} {b} L M p q c d t (higher k e) i =
    let f : holds a b ≡ false = ap₂ holds (c.is ∙ ap (λ (n : ℕ). id_of n p) e) d.is ∙ holds_not M k q p (omega (arith, c.level)) in
    let z : true ≡ false = sym t ∙ f in absurd (let y : ◌≡◌ {A = ℕ} 0 1 = cc in omega arith)

holds_case : {a b : ℕ} → Cell a → Cell b → holds a b ≡ true → first_leaf a ≤ b → b ≤ last_leaf a → Nest a b → In b a
holds_case c d t x y (left h) = let s = span c in let u = span d in absurd (omega arith)
holds_case c d t x y (right h) = let s = span c in let u = span d in absurd (omega arith)
holds_case c d t x y (inside h) = holds_at c.0 d.0 c.1 d.1 c.2 d.2 t (levels c.0 d.0) h
holds_case c d t x y (around h) = h

pub holds_in : {a b : ℕ} → Cell a → Cell b → holds a b ≡ true → In b a
unfolding holds
holds_in {a} {b} c d t =
    let r = (and-eq-true_iff (leb (first_leaf a) b) (leb b (last_leaf a))).0 t in
    holds_case c d t (leb-true _ _ r.0) (leb-true _ _ r.1) (nest c d)

pub in_holds : {a b : ℕ} → Cell a → Cell b → In b a → holds a b ≡ true
unfolding holds
in_holds {a} {b} c d i =
    let s = span c in
    let u = span d in
    rw (le-leb (first_leaf a) b (omega (arith, i.0, i.1)), le-leb b (last_leaf a) (omega (arith, i.0, i.1)))

pub holds_no : {a b : ℕ} → Cell a → Cell b → holds a b ≡ false → In b a → ⊥
holds_no c d f i = let z : true ≡ false = sym (in_holds c d i) ∙ f in let y : ◌≡◌ {A = ℕ} 0 1 = cc in omega arith
