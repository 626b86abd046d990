-- The leaves beneath a cell: where they run and how many they are; children tile their parent; two cells are nested or share no leaf; containing
-- and intersecting in terms of leaves.
use Rattle.std.proofs.Common.{◌≡◌, ℕ, zero, suc, ◌+◌, ◌-◌, ◌*◌, ◌/◌, ◌%◌, ◌^◌, ◌<◌, ◌≤◌, Bool, true, false, ◌||◌, eqb, leb, ◌⊎◌, ◌↔◌, sym, refl, ap, ◌∙◌, subst, ap₂, inl, inr, ⊎_elim, true≢false, mul_comm, add-mul, mul-lt-mul_of_pos_right, one-mul, zero-add, mul-one, div-mul-le_self, mul-div_cancel, arith, pow_pos, eq-eqb, eqb-true, le-leb, leb-true}
use mathlib.Core.Bool.{and_comm, and-eq-true_iff}
use native.Mathlib.Nat.{lt-div-mul-add, div-eq_of_lt-le, div-div-eq-div-mul}
use lib.Pow.{pow-lt}
use Rattle.cellid.specs.CellId.{Cell, IsCell, id_of, bit_at, place_at, low_bit, level_of, child_of, first_leaf, last_leaf, leaves_of, holds, has_leaf, meets}
use Rattle.cellid.proofs.Laws.{or_true, true_or, bool_iff, bit_up, low_cell, level_cell, first_id, last_id, holds_id, holds_not, meets_id, child_id, pow_pair}

-- ---- where they run

leaf_id : (L n : ℕ) → L ≤ 30 → id_of (L + (30 - L)) n ≡ 2 * n + 1
unfolding id_of
leaf_id L n h = let e : L + (30 - L) ≡ 30 = omega arith in rw e (mul-one (2 * n + 1))

-- the leaf n lies beneath the cell at the place to which n leads
pub has_leaf_is : {id L p : ℕ} (n : ℕ) → IsCell id L p → has_leaf id n ≡ eqb (n / bit_at L) p
has_leaf_is {id} {L} {p} n c =
    ap₂ holds c.is (sym (leaf_id L n c.level)) ∙ holds_id L (30 - L) p n (let e : L + (30 - L) ≤ 30 = omega (arith, c.level) in e)

pub has_leaf→ : {id L p : ℕ} (n : ℕ) → IsCell id L p → has_leaf id n ≡ true → n / bit_at L ≡ p
has_leaf→ n c t = eqb-true _ _ (sym (has_leaf_is n c) ∙ t)

pub has_leaf← : {id L p : ℕ} (n : ℕ) → IsCell id L p → n / bit_at L ≡ p → has_leaf id n ≡ true
has_leaf← n c e = has_leaf_is n c ∙ eq-eqb _ _ e

-- the numbers of the first and of the last
pub has_leaf_first : {id L p : ℕ} → IsCell id L p → has_leaf id (p * bit_at L) ≡ true
has_leaf_first {id} {L} {p} c = has_leaf← (p * bit_at L) c (mul-div_cancel p (pow_pos (place_at L)))

pub has_leaf_last : {id L p : ℕ} → IsCell id L p → has_leaf id (p * bit_at L + (bit_at L - 1)) ≡ true
has_leaf_last {id} {L} {p} c =
    has_leaf← (p * bit_at L + (bit_at L - 1)) c (div-eq_of_lt-le (bit_at L) (omega arith) (omega (arith, pow_pos (place_at L), add-mul p 1 (bit_at L), one-mul (bit_at L))))

-- they are the leaves `first_leaf` and `last_leaf`
pub first_is : {id L p : ℕ} → IsCell id L p → first_leaf id ≡ 2 * (p * bit_at L) + 1
first_is {id} {L} {p} c = ap first_leaf c.is ∙ first_id L p

pub last_is : {id L p : ℕ} → IsCell id L p → last_leaf id ≡ 2 * (p * bit_at L + (bit_at L - 1)) + 1
last_is {id} {L} {p} c = let e = ap last_leaf c.is in omega (arith, last_id L p, pow_pos (place_at L))

-- ---- how many they are

-- the leaves beneath are, in order and each once, those at two apart from the first, as many as `leaves_of` says
pub leaves_are : (id n : ℕ) → Cell id → (has_leaf id n ≡ true) ↔ ((k : ℕ) × (k < leaves_of id) × (2 * n + 1 ≡ first_leaf id + 2 * k))
unfolding leaves_of
leaves_are id n (L, p, c) =
    rw (level_cell id L p c) (
      λ t. let e : n / bit_at L ≡ p = has_leaf→ n c t in
          let l : p * bit_at L ≤ n = rw (← e) (div-mul-le_self n (bit_at L)) in
          let u : n < p * bit_at L + bit_at L = rw (← e) (lt-div-mul-add (pow_pos (place_at L))) in
          (n - p * bit_at L, omega arith, omega (arith, first_is c)),
      λ r. let e : n ≡ p * bit_at L + r.0 = omega (arith, r.2, first_is c) in
          has_leaf← n c (div-eq_of_lt-le (bit_at L) (omega arith) (omega (arith, r.1, add-mul p 1 (bit_at L), one-mul (bit_at L)))),
    )

-- ---- children

pub child_cell : {id L p : ℕ} (k : ℕ) → IsCell id L p → L < 30 → k < 4 → IsCell (child_of id k) (L + 1) (4 * p + k)
child_cell {id} {L} {p} k c h g = record {
  level = omega arith;
  place = omega (arith, c.place, pow_pair L (L + 1) refl);
  is = ap (λ (x : ℕ). child_of x k) c.is ∙ child_id L p k h;
}

pub child_valid : (id k x : ℕ) → Cell id → level_of id < 30 → k < 4 → x ≡ child_of id k → Cell x
child_valid id k x (L, p, c) h g e = rw e (L + 1, 4 * p + k, child_cell k c (omega (arith, level_cell id L p c)) g)

-- they ascend
pub children_ascend : {id L p : ℕ} (j k : ℕ) → IsCell id L p → L < 30 → j < k → child_of id j < child_of id k
unfolding child_of
children_ascend {id} {L} {p} j k c h l =
    let b : low_bit id ≡ 4 * bit_at (L + 1) = low_cell id L p c ∙ bit_up L 1 (omega arith) in
    let m : (2 * j + 1) * (low_bit id / 4) < (2 * k + 1) * (low_bit id / 4) = mul-lt-mul_of_pos_right (omega arith) (omega (arith, pow_pos (place_at (L + 1)))) in
    omega arith

-- one level up, the place of a leaf's cell
quarter : (L n : ℕ) → L < 30 → n / bit_at L ≡ n / bit_at (L + 1) / 4
quarter L n h = rw (bit_up L 1 (omega arith), mul_comm 4 (bit_at (L + 1))) (sym (div-div-eq-div-mul n (bit_at (L + 1)) 4))

-- each leaf of the parent lies beneath one of them,
pub children_cover : {id L p : ℕ} (n : ℕ) → IsCell id L p → L < 30 → has_leaf id n ≡ true → (k : ℕ) × (k < 4) × (has_leaf (child_of id k) n ≡ true)
children_cover {id} {L} {p} n c h t =
    let e : n / bit_at (L + 1) / 4 ≡ p = sym (quarter L n h) ∙ has_leaf→ n c t in
    let g : n / bit_at (L + 1) % 4 < 4 = omega arith in
    (n / bit_at (L + 1) % 4, g, has_leaf← n (child_cell (n / bit_at (L + 1) % 4) c h g) (omega arith))

-- and no other,
pub children_apart : {id L p : ℕ} (j k n : ℕ) → IsCell id L p → L < 30 → j < 4 → k < 4 → has_leaf (child_of id j) n ≡ true → has_leaf (child_of id k) n ≡ true → j ≡ k
children_apart j k n c h g f t u = omega (arith, has_leaf→ n (child_cell j c h g) t, has_leaf→ n (child_cell k c h f) u)

-- and beneath them lie no others
pub children_only : {id L p : ℕ} (k n : ℕ) → IsCell id L p → L < 30 → k < 4 → has_leaf (child_of id k) n ≡ true → has_leaf id n ≡ true
children_only {id} {L} {p} k n c h g t = has_leaf← n c (quarter L n h ∙ omega (arith, has_leaf→ n (child_cell k c h g) t))

-- ---- two cells

-- k levels up, the place of a leaf's cell
above : (L k n : ℕ) → L + k ≤ 30 → n / bit_at L ≡ n / bit_at (L + k) / 2 ^ (2 * k)
above L k n h = rw (bit_up L k h, mul_comm (2 ^ (2 * k)) (bit_at (L + k))) (sym (div-div-eq-div-mul n (bit_at (L + k)) (2 ^ (2 * k))))

-- a cell and one k levels deeper
module _ {a b L p q : ℕ} (k : ℕ) (c : IsCell a L p) (d : IsCell b (L + k) q) where
  pub holds_deeper : holds a b ≡ eqb (q / 2 ^ (2 * k)) p
  holds_deeper = ap₂ holds c.is d.is ∙ holds_id L k p q d.level

  meets_deeper : meets a b ≡ holds a b
  meets_deeper = ap₂ meets c.is d.is ∙ meets_id L k p q d.level ∙ sym holds_deeper

  leaf_deeper : (n : ℕ) → has_leaf b n ≡ true → n / bit_at L ≡ q / 2 ^ (2 * k)
  leaf_deeper n t = above L k n d.level ∙ ap (λ (x : ℕ). x / 2 ^ (2 * k)) (has_leaf→ n d t)

  pass_up : (n : ℕ) → holds a b ≡ true → has_leaf b n ≡ true → has_leaf a n ≡ true
  pass_up n t u = has_leaf← n c (leaf_deeper n u ∙ eqb-true _ _ (sym holds_deeper ∙ t))

  join : (n : ℕ) → has_leaf a n ≡ true → has_leaf b n ≡ true → holds a b ≡ true
  join n t u = holds_deeper ∙ eq-eqb _ _ (sym (leaf_deeper n u) ∙ has_leaf→ n c t)

-- a deeper cell has fewer leaves than a higher one
too_few : (p q A B : ℕ) → 0 < A → A < B → (q * B) / A ≡ p → (q * B + (B - 1)) / A ≡ p → ⊥
too_few p q A B z l e f =
    let x : p * A ≤ q * B = rw (← e) (div-mul-le_self (q * B) A) in
    let y : q * B + (B - 1) < p * A + A = rw (← f) (lt-div-mul-add z) in
    omega arith

not_all : {a b L p q : ℕ} (k : ℕ) → IsCell a (L + suc k) p → IsCell b L q → ((n : ℕ) → has_leaf b n ≡ true → has_leaf a n ≡ true) → ⊥
not_all {a} {b} {L} {p} {q} k c d f =
    too_few p q (bit_at (L + suc k)) (bit_at L) (pow_pos (place_at (L + suc k))) (pow-lt {i = place_at (L + suc k)} {j = place_at L} (omega (arith, c.level)))
    (has_leaf→ _ c (f _ (has_leaf_first d))) (has_leaf→ _ c (f _ (has_leaf_last d)))

-- one level is another, or lies above it, or beneath it
pub data Depth (L M : ℕ) : Type 0 where
  deeper : (k : ℕ) → M ≡ L + k → Depth L M
  higher : (k : ℕ) → L ≡ M + suc k → Depth L M

pub depth : (L M : ℕ) → Depth L M
depth zero M = deeper M (sym (zero-add M))
depth (suc L) zero = higher L (sym (zero-add (suc L)))
depth (suc L) (suc M) = down (depth L M)
  where
    down : Depth L M → Depth (suc L) (suc M)
    down (deeper k e) = deeper k (omega arith)
    down (higher k e) = higher k (omega arith)

at : {b M q N : ℕ} → IsCell b M q → M ≡ N → IsCell b N q
at {b} {M} {q} d e = subst (λ (n : ℕ). IsCell b n q) e d

-- a contains b exactly where every leaf of b is one of a
contains_at : {a b L M p q : ℕ} → IsCell a L p → IsCell b M q → Depth L M → (holds a b ≡ true) ↔ ((n : ℕ) → has_leaf b n ≡ true → has_leaf a n ≡ true)
contains_at {a} {b} {L} {M} {p} {q} c d (deeper k e) =
    let d' : IsCell b (L + k) q = at d e in
    (λ t n u. pass_up k c d' n t u, λ f. join k c d' (q * bit_at M) (f _ (has_leaf_first d)) (has_leaf_first d))
contains_at {a} {b} {L} {M} {p} {q} c d (higher k e) =
    let f : holds a b ≡ false = ap₂ holds (c.is ∙ ap (λ (n : ℕ). id_of n p) e) d.is ∙ holds_not M k q p (omega (arith, c.level)) in
    (λ t n u. absurd (true≢false (sym t ∙ f)), λ g. absurd (not_all k (at c e) d g))

pub contains_leaves : (a b : ℕ) → Cell a → Cell b → (holds a b ≡ true) ↔ ((n : ℕ) → has_leaf b n ≡ true → has_leaf a n ≡ true)
contains_leaves a b (L, p, c) (M, q, d) = contains_at c d (depth L M)

-- a cell lies no higher than one that contains it
holds_at : {a b L M p q : ℕ} → IsCell a L p → IsCell b M q → Depth L M → holds a b ≡ true → L ≤ M
holds_at c d (deeper k e) t = omega arith
holds_at {a} {b} {L} {M} {p} {q} c d (higher k e) t = absurd (not_all k (at c e) d ((contains_at c d (higher k e)).0 t))

pub holds_level : (a b : ℕ) → Cell a → Cell b → holds a b ≡ true → level_of a ≤ level_of b
holds_level a b (L, p, c) (M, q, d) t = rw (level_cell a L p c, level_cell b M q d) (holds_at c d (depth L M) t)

pub meets_sym : (a b : ℕ) → meets a b ≡ meets b a
unfolding meets
meets_sym a b = and_comm (leb (first_leaf b) (last_leaf a)) (leb (first_leaf a) (last_leaf b))

-- a and b intersect exactly where some leaf is one of both
meets_at : {a b L M p q : ℕ} (k : ℕ) → IsCell a L p → IsCell b M q → M ≡ L + k → (meets a b ≡ true) ↔ ((n : ℕ) × (has_leaf a n ≡ true) × (has_leaf b n ≡ true))
meets_at {a} {b} {L} {M} {p} {q} k c d e =
    let d' : IsCell b (L + k) q = at d e in (
      λ t. (q * bit_at M, pass_up k c d' _ (sym (meets_deeper k c d') ∙ t) (has_leaf_first d), has_leaf_first d),
      λ r. meets_deeper k c d' ∙ join k c d' r.0 r.1 r.2,
    )

intersects_at : {a b L M p q : ℕ} → IsCell a L p → IsCell b M q → Depth L M → (meets a b ≡ true) ↔ ((n : ℕ) × (has_leaf a n ≡ true) × (has_leaf b n ≡ true))
intersects_at c d (deeper k e) = meets_at k c d e
intersects_at {a} {b} c d (higher k e) =
    let r = meets_at (suc k) d c e in
    (λ t. let s = r.0 (meets_sym b a ∙ t) in (s.0, s.2, s.1), λ s. meets_sym a b ∙ r.1 (s.0, s.2, s.1))

pub intersects_leaves : (a b : ℕ) → Cell a → Cell b → (meets a b ≡ true) ↔ ((n : ℕ) × (has_leaf a n ≡ true) × (has_leaf b n ≡ true))
intersects_leaves a b (L, p, c) (M, q, d) = intersects_at c d (depth L M)

-- two cells are nested or share no leaf
nested_at : {a b L M p q : ℕ} (k : ℕ) → IsCell a L p → IsCell b M q → M ≡ L + k → (holds a b ≡ true) ⊎ ((n : ℕ) → has_leaf a n ≡ true → has_leaf b n ≡ true → ⊥)
nested_at {a} {b} k c d e = by (holds a b) refl
  where
    by : (t : Bool) → holds a b ≡ t → (holds a b ≡ true) ⊎ ((n : ℕ) → has_leaf a n ≡ true → has_leaf b n ≡ true → ⊥)
    by true h = inl h
    by false h = inr (λ n t u. absurd (true≢false (sym (join k c (at d e) n t u) ∙ h)))

nested_in : {a b L M p q : ℕ} → IsCell a L p → IsCell b M q → Depth L M → (holds a b ≡ true) ⊎ ((holds b a ≡ true) ⊎ ((n : ℕ) → has_leaf a n ≡ true → has_leaf b n ≡ true → ⊥))
nested_in c d (deeper k e) = ⊎_elim inl (λ f. inr (inr f)) (nested_at k c d e)
nested_in c d (higher k e) = ⊎_elim (λ t. inr (inl t)) (λ f. inr (inr (λ n t u. f n u t))) (nested_at (suc k) d c e)

pub nested_or_apart : (a b : ℕ) → Cell a → Cell b → (holds a b ≡ true) ⊎ ((holds b a ≡ true) ⊎ ((n : ℕ) → has_leaf a n ≡ true → has_leaf b n ≡ true → ⊥))
nested_or_apart a b (L, p, c) (M, q, d) = nested_in c d (depth L M)

-- a cell that holds another meets it
holds_meets : (a b : ℕ) → holds a b ≡ true → meets a b ≡ true
unfolding holds meets first_leaf last_leaf
holds_meets a b h =
    let both = (and-eq-true_iff (leb (first_leaf a) b) (leb b (last_leaf a))).0 h in
    let lo : first_leaf a ≤ b = leb-true _ _ both.0 in
    let hi : b ≤ last_leaf a = leb-true _ _ both.1 in
    let x : first_leaf b ≤ last_leaf a = omega (arith, lo, hi) in
    let y : first_leaf a ≤ last_leaf b = omega (arith, lo, hi) in
    rw (le-leb (first_leaf b) (last_leaf a) x, le-leb (first_leaf a) (last_leaf b) y)

-- of two cells that meet, one holds the other
pub meets_either : (a b : ℕ) → Cell a → Cell b → meets a b ≡ (holds a b || holds b a)
meets_either a b c d = bool_iff _ _ there back
  where
    there : meets a b ≡ true → (holds a b || holds b a) ≡ true
    there h =
        let n = (intersects_leaves a b c d).0 h in
        ⊎_elim (λ x. true_or (holds a b) (holds b a) (inl x)) (λ x. ⊎_elim (λ y. true_or (holds a b) (holds b a) (inr y)) (λ apart. absurd (apart n.0 n.1 n.2)) x) (nested_or_apart a b c d)

    back : (holds a b || holds b a) ≡ true → meets a b ≡ true
    back h = ⊎_elim (holds_meets a b) (λ k. meets_sym a b ∙ holds_meets b a k) (or_true _ _ h)
