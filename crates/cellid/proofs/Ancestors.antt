-- Ancestors: the parent at a level is the one cell of that level that contains a cell; the common ancestor's level is the deepest at which both
-- have the same ancestor, and the code's bits tell it.
use Rattle.std.proofs.Common.{◌≡◌, ℕ, Option, Some, None, zero, suc, ◌+◌, ◌-◌, ◌*◌, ◌/◌, ◌^◌, ◌<◌, ◌≤◌, max, Bool, true, false, ◌&&◌, eqb, ltb, leb, ◌⊎◌, ◌↔◌, sym, refl, ap, ◌∙◌, subst, inl, inr, ⊎_elim, true≢false, le_trans, le_of_suc-le-suc, mul_assoc, mul_comm, div-lt_iff_lt-mul, eq-or-lt_of_le, arith, pow_pos, pow_mono, pow-add, ltb-true, le-ltb, lt-ltb, eq-eqb, eqb-true, le-leb, leb-true}
use mathlib.Core.Bool.{and-eq-true_iff}
use native.Mathlib.Nat.{eq_of_mul-eq-mul_right}
use lib.Bits.{bit_xor, xor_lt}
use lib.Count.{count_leading_zeros, leading_top, leading_le}
use lib.Pow.{pow-lt}
use borrow.Author.Tests.{lt-leb}
use Rattle.cellid.specs.CellId.{Cell, IsCell, id_of, bit_at, place_at, face_of, low_bit, level_of, parent_at, holds, SameAt, same_at, deepest, common_level}
use Rattle.cellid.proofs.Leaves.{holds_deeper, Depth, deeper, higher, depth}
use Rattle.cellid.proofs.Bits.{xor_below}
use Rattle.cellid.proofs.Parts.{face_same}
use Rattle.cellid.proofs.Laws.{bool_iff, no_true, level_le, same_above, low_cell, low_pos, low_small, level_cell, parent_id, cell_lt}

-- ---- the ancestor at a level

-- the parent at a level is a cell of that level
pub parent_cell : {id M q : ℕ} (L : ℕ) → IsCell id M q → L ≤ M → IsCell (parent_at id L) L (q / 2 ^ (2 * (M - L)))
parent_cell {id} {M} {q} L c h =
    let e : L + (M - L) ≡ M = omega arith in
    let w : 6 * 2 ^ (2 * M) ≡ 6 * 2 ^ (2 * L) * 2 ^ (2 * (M - L)) =
    ap (λ (n : ℕ). 6 * n) (ap (λ (n : ℕ). 2 ^ n) (let f : 2 * M ≡ 2 * L + 2 * (M - L) = omega arith in f) ∙ pow-add 2 (2 * L) (2 * (M - L))) ∙ sym (mul_assoc 6 (2 ^ (2 * L)) (2 ^ (2 * (M - L)))) in
    record {
      level = omega (arith, c.level);
      place = (div-lt_iff_lt-mul (pow_pos (2 * (M - L)))).1 (rw (← w) c.place);
      is = ap (λ (x : ℕ). parent_at x L) (c.is ∙ ap (λ (n : ℕ). id_of n q) (sym e)) ∙ parent_id L (M - L) q (omega (arith, c.level));
    }

-- it contains the cell,
pub parent_holds : {id M q : ℕ} (L : ℕ) → IsCell id M q → L ≤ M → holds (parent_at id L) id ≡ true
parent_holds {id} {M} {q} L c h =
    let e : M ≡ L + (M - L) = omega arith in
    holds_deeper (M - L) (parent_cell L c h) (subst (λ (n : ℕ). IsCell id n q) e c) ∙ eq-eqb (q / 2 ^ (2 * (M - L))) (q / 2 ^ (2 * (M - L))) refl

-- and no other cell of that level does
pub parent_only : {id c M q r : ℕ} (L : ℕ) → IsCell id M q → IsCell c L r → L ≤ M → holds c id ≡ true → c ≡ parent_at id L
parent_only {id} {c} {M} {q} {r} L d e h t =
    let f : M ≡ L + (M - L) = omega arith in
    let g : q / 2 ^ (2 * (M - L)) ≡ r = eqb-true _ _ (sym (holds_deeper (M - L) e (subst (λ (n : ℕ). IsCell id n q) f d)) ∙ t) in
    e.is ∙ ap (id_of L) (sym g) ∙ sym (parent_cell L d h).is

-- ---- the same ancestor at a level

pub same→ : (a b N : ℕ) → same_at a b N ≡ true → SameAt a b N
unfolding same_at
same→ a b N t =
    let r = (and-eq-true_iff (leb N (level_of a)) (leb N (level_of b) && eqb (parent_at a N) (parent_at b N))).0 t in
    let s = (and-eq-true_iff (leb N (level_of b)) (eqb (parent_at a N) (parent_at b N))).0 r.1 in
    (leb-true _ _ r.0, leb-true _ _ s.0, eqb-true _ _ s.1)

pub same← : (a b N : ℕ) → SameAt a b N → same_at a b N ≡ true
unfolding same_at
same← a b N h = rw (le-leb N (level_of a) h.0, le-leb N (level_of b) h.1, eq-eqb (parent_at a N) (parent_at b N) h.2)

twice : (N : ℕ) → 2 * bit_at N ≡ 2 ^ (place_at N + 1)
twice N = mul_comm 2 (bit_at N) ∙ sym (pow-add 2 (place_at N) 1)

-- it is told by the bits from the level's pair upwards
pub parents→ : (a b N : ℕ) → parent_at a N ≡ parent_at b N → a / 2 ^ (place_at N + 1) ≡ b / 2 ^ (place_at N + 1)
unfolding parent_at
parents→ a b N e =
    let f : a / (2 * bit_at N) * (2 * bit_at N) ≡ b / (2 * bit_at N) * (2 * bit_at N) = omega arith in
    rw (← twice N) (eq_of_mul-eq-mul_right (2 * bit_at N) (omega (arith, pow_pos (place_at N))) _ _ f)

pub parents← : (a b N : ℕ) → a / 2 ^ (place_at N + 1) ≡ b / 2 ^ (place_at N + 1) → parent_at a N ≡ parent_at b N
unfolding parent_at
parents← a b N e = rw (twice N, e)

-- ---- the deepest such level

abbrev pub Found : ℕ → ℕ → ℕ → ℕ → Type 0
Found a b n K = SameAt a b K × ((N : ℕ) → N ≤ n → SameAt a b N → N ≤ K)

deepest_level : (a b n K : ℕ) (t : Bool) → deepest a b n ≡ Some K → same_at a b n ≡ t → Found a b n K
unfolding deepest
deepest_level a b zero K true e s =
    let k : 0 ≡ K = let f : Some 0 ≡ Some K = rw (deepest, s) at e in cc in
    (subst (SameAt a b) k (same→ a b 0 s), λ N h g. omega arith)
deepest_level a b zero K false e s = let f : None ≡ Some K = rw (deepest, s) at e in let z : ◌≡◌ {A = ℕ} 0 1 = cc in absurd (omega arith)
deepest_level a b (suc n) K true e s =
    let k : suc n ≡ K = let f : Some (suc n) ≡ Some K = rw (deepest, s) at e in cc in
    (subst (SameAt a b) k (same→ a b (suc n) s), λ N h g. omega arith)
deepest_level a b (suc n) K false e s =
    let r = deepest_level a b n K (same_at a b n) (rw (deepest, s) at e) refl in (
      r.0,
      λ N h g. ⊎_elim
          (λ (q : N ≡ suc n). absurd (true≢false (sym (same← a b N g) ∙ ap (same_at a b) q ∙ s)))
          (λ (q : N < suc n). r.1 N (le_of_suc-le-suc q) g)
          (eq-or-lt_of_le h),
    )

-- a level found is one at which both have the same ancestor, and none deeper is
pub common_level_lem : (a b K : ℕ) → common_level a b ≡ Some K → SameAt a b K × ((N : ℕ) → SameAt a b N → N ≤ K)
unfolding common_level
common_level_lem a b K e = let r = deepest_level a b 30 K (same_at a b 30) e refl in (r.0, λ N g. r.1 N (le_trans g.0 (level_le a)) g)

deepest_nothing : (a b n : ℕ) → deepest a b n ≡ None → same_at a b 0 ≡ false
unfolding deepest
deepest_nothing a b zero e = no_true _ (λ t. let f : Some 0 ≡ None = rw (deepest, t) at e in let z : ◌≡◌ {A = ℕ} 0 1 = cc in omega arith)
deepest_nothing a b (suc n) e =
    let f = no_true (same_at a b (suc n)) (λ t. let g : Some (suc n) ≡ None = rw (deepest, t) at e in let z : ◌≡◌ {A = ℕ} 0 1 = cc in omega arith) in
    deepest_nothing a b n (rw (deepest, f) at e)

level_or_nothing : (c : Option ℕ) → ((K : ℕ) × (c ≡ Some K)) ⊎ (c ≡ None)
level_or_nothing (Some K) = inl (K, refl)
level_or_nothing None = inr refl

-- there is none exactly where the faces differ
pub common_nothing : (a b : ℕ) → (common_level a b ≡ None) ↔ (face_of a ≡ face_of b → ⊥)
common_nothing a b = (
  λ e f. true≢false (sym (same← a b 0 (omega arith, omega arith, parents← a b 0 f)) ∙ deepest_nothing a b 30 (unfold common_level in e)),
  λ d. ⊎_elim
      (λ (r : (K : ℕ) × (common_level a b ≡ Some K)).
      let s = (common_level_lem a b r.0 r.1).0 in absurd (d (face_same a b r.0 (le_trans s.0 (level_le a)) (parents→ a b r.0 s.2))))
      (λ e. e)
      (level_or_nothing (common_level a b)),
)

-- ---- what the code reads it from

-- the highest bit of this is that at which two ids differ, or the higher of their lowest set bits
abbrev pub spread : ℕ → ℕ → ℕ
spread a b = max (max (bit_xor a b) (low_bit a)) (low_bit b)

pub spread_lt : (a b : ℕ) → Cell a → Cell b → spread a b < 2 ^ 64
spread_lt a b c d =
    let x = xor_lt 64 a b (omega (arith, cell_lt a c.0 c.1 c.2)) (omega (arith, cell_lt b d.0 d.1 d.2)) in
    omega (arith, low_small a c, low_small b d)

pub pow_less : (i j : ℕ) → 2 ^ i < 2 ^ j → i < j
pow_less i j h = by (depth j i)
  where
    by : Depth j i → i < j
    by (deeper k e) = absurd (omega (arith, pow_mono {i = j} {j = i} (omega arith)))
    by (higher k e) = omega arith

-- a cell's lowest set bit stands below a level's pair exactly where the cell is at that level or deeper
low_below : (id N : ℕ) → Cell id → N ≤ 30 → (N ≤ level_of id) ↔ (low_bit id < 2 ^ (place_at N + 1))
low_below id N c h = rw (level_cell id c.0 c.1 c.2, low_cell id c.0 c.1 c.2)
    (λ l. pow-lt (omega arith), λ l. let g = pow_less (place_at c.0) (place_at N + 1) l in omega (arith, c.2.level))

same_spread : (a b N : ℕ) → Cell a → Cell b → N ≤ 30 → same_at a b N ≡ ltb (spread a b) (2 ^ (place_at N + 1))
same_spread a b N c d h = bool_iff (same_at a b N) (ltb (spread a b) (2 ^ (place_at N + 1)))
    (λ t. let s = same→ a b N t in
    let x = (low_below a N c h).0 s.0 in
    let y = (low_below b N d h).0 s.1 in
    lt-ltb (spread a b) (2 ^ (place_at N + 1)) (omega (arith, x, y, xor_below a b (place_at N + 1) (parents→ a b N s.2))))
    (λ t. let l : spread a b < 2 ^ (place_at N + 1) = ltb-true _ _ t in
    same← a b N ((low_below a N c h).1 (omega arith), (low_below b N d h).1 (omega arith), parents← a b N (same_above a b (place_at N + 1) (omega arith))))

top_bit : (s j m : ℕ) → 2 ^ j ≤ s → s < 2 ^ suc j → ltb s (2 ^ m) ≡ ltb j m
top_bit s j m lo hi = bool_iff (ltb s (2 ^ m)) (ltb j m)
    (λ t. let l : s < 2 ^ m = ltb-true _ _ t in lt-ltb j m (pow_less j m (omega arith)))
    (λ t. let l : j < m = ltb-true _ _ t in lt-ltb s (2 ^ m) (omega (arith, pow_mono {i = suc j} {j = m} (omega arith))))

top_zeros : (s m : ℕ) → 0 < s → s < 2 ^ 64 → ltb s (2 ^ m) ≡ ltb (63 - count_leading_zeros 64 s) m
top_zeros s m z h =
    let t = leading_top 64 s z h in
    let e : 63 - count_leading_zeros 64 s ≡ t.0 = omega (arith, t.1) in
    rw e (top_bit s t.0 m t.2 t.3)

same_zeros : (a b N : ℕ) → Cell a → Cell b → N ≤ 30 → same_at a b N ≡ ltb (63 - count_leading_zeros 64 (spread a b)) (place_at N + 1)
same_zeros a b N c d h = same_spread a b N c d h ∙ top_zeros (spread a b) (place_at N + 1) (omega (arith, low_pos a)) (spread_lt a b c d)

deepest_none : (a b n : ℕ) → ((N : ℕ) → N ≤ n → same_at a b N ≡ false) → deepest a b n ≡ None
unfolding deepest
deepest_none a b zero f = rw (deepest, f 0 (omega arith))
deepest_none a b (suc n) f = rw (deepest, f (suc n) (omega arith)) (deepest_none a b n (λ N h. f N (omega arith)))

deepest_at : (a b K n : ℕ) → K ≤ n → ((N : ℕ) → N ≤ n → same_at a b N ≡ leb N K) → deepest a b n ≡ Some K
unfolding deepest
deepest_at a b K zero h f = let e : 0 ≡ K = omega arith in rw (deepest, f 0 (omega arith), le-leb 0 K (omega arith)) (ap Some e)
deepest_at a b K (suc n) h f = ⊎_elim
    (λ (e : K ≡ suc n). rw (deepest, f (suc n) (omega arith), le-leb (suc n) K (omega arith)) (ap Some (sym e)))
    (λ (l : K < suc n). rw (deepest, f (suc n) (omega arith), lt-leb (suc n) K l) (deepest_at a b K n (le_of_suc-le-suc l) (λ N g. f N (omega arith))))
    (eq-or-lt_of_le h)

-- fewer than three zeros above: the bits of the face differ
pub common_none : (a b : ℕ) → Cell a → Cell b → count_leading_zeros 64 (spread a b) < 3 → common_level a b ≡ None
unfolding common_level
common_none a b c d h = deepest_none a b 30 (λ N g. same_zeros a b N c d g ∙ le-ltb (63 - count_leading_zeros 64 (spread a b)) (place_at N + 1) (omega arith))

-- else two for each level beneath the face's three
pub common_some : (a b : ℕ) → Cell a → Cell b → 3 ≤ count_leading_zeros 64 (spread a b) → common_level a b ≡ Some ((count_leading_zeros 64 (spread a b) - 3) / 2)
unfolding common_level
common_some a b c d h =
    let z = count_leading_zeros 64 (spread a b) in
    let u = leading_le 64 (spread a b) in
    deepest_at a b ((z - 3) / 2) 30 (omega arith) (λ N g. same_zeros a b N c d g ∙ bool_iff (ltb (63 - z) (place_at N + 1)) (leb N ((z - 3) / 2))
    (λ t. let l : 63 - z < place_at N + 1 = ltb-true _ _ t in le-leb N ((z - 3) / 2) (omega arith))
    (λ t. let l : N ≤ (z - 3) / 2 = leb-true _ _ t in lt-ltb (63 - z) (place_at N + 1) (omega arith)))
