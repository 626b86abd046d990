-- Leaves: the leaf count and "the leaf n lies under" are additive measures of cells; cells that share no leaf don't overlap.
use mathlib.Core.Path.{◌≡◌, refl, sym, ap, ◌∙◌}
use mathlib.Core.Bool.{Bool, true, false, ◌&&◌, true≢false, and-eq-true_iff}
use mathlib.Core.Logic.{⊎_elim}
use mathlib.Core.List.{List, [], ◌∷◌}
use Prim.Native.Nat.{ℕ, zero, suc, ◌+◌, ◌-◌, ◌*◌, ◌/◌, ◌%◌, ◌≤◌, ◌<◌}
use native.Mathlib.Nat.{div-div-eq-div-mul, mul_comm, mul_left_comm}
use native.Mathlib.Omega.{arith}
use lib.Dec.{eqb}
use lib.Pow.{pow_pos}
use borrow.Author.Tests.{eqb-true, eq-eqb}
use Rattle.cellid.specs.CellId.{Cell, IsCell, id_of, child_of, level_of, leaves_of, meets, has_leaf, bit_at, parent_at, one}
use Rattle.cellid.proofs.Laws.{level_cell, bool_iff, bit_up, no_true, odd_mul}
use Rattle.cellid.proofs.Leaves.{has_leaf_is, has_leaf→, child_cell, intersects_leaves}
use Rattle.order.specs.Order.{All}
use Rattle.order.proofs.OrderLaws.{which}
use Rattle.run.specs.Run.{sum_of}
use Rattle.run.specs.Ground.{Disjoint, times_covered}

pub leaves_pos : (id : ℕ) → 0 < leaves_of id
unfolding leaves_of
leaves_pos id = pow_pos (2 * (30 - level_of id))

pub leaves_add : (id L p : ℕ) → IsCell id L p → L < 30 → leaves_of (child_of id 0) + (leaves_of (child_of id 1) + (leaves_of (child_of id 2) + leaves_of (child_of id 3))) ≡ leaves_of id
unfolding leaves_of
leaves_add id L p c l =
    let e : (k : ℕ) → k < 4 → level_of (child_of id k) ≡ L + 1 = λ k g. level_cell (child_of id k) (L + 1) (4 * p + k) (child_cell k c l g) in
    rw (e 0 (omega arith), e 1 (omega arith), e 2 (omega arith), e 3 (omega arith), level_cell id L p c) (omega (arith, bit_up L 1 (omega arith)))

pub one_true : (b : Bool) → 0 < one b → b ≡ true
unfolding one
one_true true h = refl
one_true false h = absurd (omega arith)

digit : (z p j : ℕ) → j < 4 → eqb z (4 * p + j) ≡ (eqb (z % 4) j && eqb (z / 4) p)
digit z p j h = bool_iff _ _
    (λ t.
    let e : z ≡ 4 * p + j = eqb-true _ _ t in
    let m : z % 4 ≡ j = omega arith in
    let d : z / 4 ≡ p = omega arith in
    rw (eq-eqb (z % 4) j m, eq-eqb (z / 4) p d))
    (λ t.
    let r = (and-eq-true_iff (eqb (z % 4) j) (eqb (z / 4) p)).0 t in
    let m : z % 4 ≡ j = eqb-true _ _ r.0 in
    let d : z / 4 ≡ p = eqb-true _ _ r.1 in
    eq-eqb z (4 * p + j) (omega arith))

four : (m : ℕ) (b : Bool) → m < 4 → one (eqb m 0 && b) + (one (eqb m 1 && b) + (one (eqb m 2 && b) + one (eqb m 3 && b))) ≡ one b
unfolding one
four zero true h = refl
four zero false h = refl
four (suc zero) true h = refl
four (suc zero) false h = refl
four (suc (suc zero)) true h = refl
four (suc (suc zero)) false h = refl
four (suc (suc (suc zero))) true h = refl
four (suc (suc (suc zero))) false h = refl
four (suc (suc (suc (suc m)))) b h = absurd (omega arith)

-- the leaf n lies under one of the children as it lies under the cell
pub has_leaf_add : (n id L p : ℕ) → IsCell id L p → L < 30 → one (has_leaf (child_of id 0) n) + (one (has_leaf (child_of id 1) n) + (one (has_leaf (child_of id 2) n) + one (has_leaf (child_of id 3) n))) ≡ one (has_leaf id n)
has_leaf_add n id L p c l =
    let z = n / bit_at (L + 1) in
    let e : (k : ℕ) → k < 4 → has_leaf (child_of id k) n ≡ (eqb (z % 4) k && eqb (z / 4) p) = λ k g. has_leaf_is n (child_cell k c l g) ∙ digit z p k g in
    let w : bit_at (L + 1) * 4 ≡ bit_at L = mul_comm (bit_at (L + 1)) 4 ∙ sym (bit_up L 1 (omega arith)) in
    let u : has_leaf id n ≡ eqb (z / 4) p = has_leaf_is n c ∙ ap (λ (m : ℕ). eqb m p) (ap (λ (m : ℕ). n / m) (sym w) ∙ sym (div-div-eq-div-mul n (bit_at (L + 1)) 4)) in
    rw (e 0 (omega arith), e 1 (omega arith), e 2 (omega arith), e 3 (omega arith), u) (four (z % 4) (eqb (z / 4) p) (omega arith))

-- the containing cell of a leaf at a level
pub parent_has_leaf : (id L p n : ℕ) → IsCell id L p → has_leaf id n ≡ true → parent_at (2 * n + 1) L ≡ id
unfolding parent_at id_of
parent_has_leaf id L p n c t =
    let h : (2 * n + 1) / 2 ≡ n = omega arith in
    let e : (2 * n + 1) / (2 * bit_at L) ≡ p = sym (div-div-eq-div-mul (2 * n + 1) 2 (bit_at L)) ∙ ap (λ (m : ℕ). m / bit_at L) h ∙ has_leaf→ n c t in
    rw e (omega (arith, c.is, odd_mul p (bit_at L), mul_left_comm p 2 (bit_at L)))

pub parent_of_leaf : (id n : ℕ) → Cell id → has_leaf id n ≡ true → parent_at (2 * n + 1) (level_of id) ≡ id
parent_of_leaf id n c t = ap (parent_at (2 * n + 1)) (level_cell id c.0 c.1 c.2) ∙ parent_has_leaf id c.0 c.1 n c.2 t

-- ---- no leaf under two: no overlap

two : (a b n m : ℕ) → has_leaf a n ≡ true → has_leaf b n ≡ true → one (has_leaf a n) + (one (has_leaf b n) + m) ≤ 1 → ⊥
unfolding one
two a b n m h g k = omega (arith, ap one h, ap one g)

disjoint_one : (a : ℕ) (l : List ℕ) → Cell a → All Cell l → ((n : ℕ) → one (has_leaf a n) + times_covered l n ≤ 1) → All (λ b. meets a b ≡ false) l
unfolding All times_covered sum_of
disjoint_one a [] c d h = tt
disjoint_one a (b ∷ l) c d h = (
  no_true (meets a b) (λ t. let r = (intersects_leaves a b c d.0).0 t in two a b r.0 (times_covered l r.0) r.1 r.2 (h r.0)),
  disjoint_one a l c d.1 (λ n. let k = h n in omega arith),
)

pub disjoint_of : (l : List ℕ) → All Cell l → ((n : ℕ) → times_covered l n ≤ 1) → Disjoint l
unfolding Disjoint All times_covered sum_of
disjoint_of [] d h = tt
disjoint_of (a ∷ l) d h = (disjoint_one a l d.0 d.1 h, disjoint_of l d.1 (λ n. let k = h n in omega arith))

none_else : (a n : ℕ) (l : List ℕ) → Cell a → All Cell l → has_leaf a n ≡ true → All (λ b. meets a b ≡ false) l → times_covered l n ≡ 0
unfolding times_covered sum_of All one
none_else a n [] c k h d = refl
none_else a n (b ∷ l) c k h d =
    let z : has_leaf b n ≡ false = no_true (has_leaf b n) (λ t. true≢false (sym ((intersects_leaves a b c k.0).1 (n, h, t)) ∙ d.0)) in
    let r : sum_of (λ y. one (has_leaf y n)) l ≡ 0 = none_else a n l c k.1 h d.1 in
    rw z (omega arith)

pub disjoint_once : (l : List ℕ) → All Cell l → Disjoint l → (n : ℕ) → times_covered l n ≤ 1
unfolding times_covered sum_of Disjoint All one
disjoint_once [] c d n = omega arith
disjoint_once (a ∷ l) c d n = ⊎_elim
    (λ (t : has_leaf a n ≡ true). let r : sum_of (λ y. one (has_leaf y n)) l ≡ 0 = none_else a n l c.0 c.1 t d.0 in rw (t, r) (omega arith))
    (λ (t : has_leaf a n ≡ false). let r : sum_of (λ y. one (has_leaf y n)) l ≤ 1 = disjoint_once l c.1 d.1 n in rw t (omega arith))
    (which (has_leaf a n))
