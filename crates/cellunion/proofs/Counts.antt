-- A cell holds 4 ^ (30 - level) leaves, and a list free of overlap the sum of these.
use mathlib.Core.Path.{◌≡◌, refl, sym, ap, ap₂, ◌∙◌}
use mathlib.Core.Logic.{◌⊎◌, inl, inr, ⊎_elim}
use mathlib.Core.Bool.{Bool, true, false, ◌||◌}
use mathlib.Core.List.{List, [], ◌∷◌}
use Prim.Native.Nat.{ℕ, zero, suc, ◌+◌, ◌-◌, ◌*◌, ◌^◌, ◌≤◌, ◌<◌, min}
use native.Mathlib.Nat.{mul-le-mul_right, add-mul, one-mul, mul_assoc}
use native.Mathlib.Omega.{arith}
use lib.Dec.{ltb}
use lib.Pow.{pow-add}
use borrow.Author.Tests.{ltb-true, ltb-false}
use Rattle.cellid.specs.CellId.{Cell, bit_at, place_at, leaves_of, first_leaf, last_leaf, has_leaf, one}
use Rattle.cellid.proofs.Laws.{level_cell}
use Rattle.cellunion.specs.CellUnion.{lo, hi, covers, Apart, count_to, leaf_sum}
use Rattle.order.specs.Order.{All}
use Rattle.order.proofs.OrderLaws.{which}
use Rattle.cellunion.proofs.Spans.{lo_is, hi_is, span, leaf→, leaf←}
use Rattle.cellunion.proofs.Unique.{all_at, at_all, covers→}

-- passing from a on and before b
count_stretch : (f : ℕ → Bool) (a b N : ℕ) → a ≤ b → ((n : ℕ) → a ≤ n → n < b → f n ≡ true) → ((n : ℕ) → f n ≡ true → (a ≤ n) × (n < b)) → count_to f N ≡ min b N - min a N
unfolding count_to one
count_stretch f a b zero h t u = omega arith
count_stretch f a b (suc N) h t u =
    let ih = count_stretch f a b N h t u in
    ⊎_elim
    (λ (e : f N ≡ true). let w = u N e in rw e (last_in (count_to f N) a b N w.0 w.1 ih))
    (λ (e : f N ≡ false). rw e (last_out (count_to f N) a b N h (⊎_elim
    (λ (g : ltb N a ≡ true). inl (ltb-true _ _ g))
    (λ (g : ltb N a ≡ false). ⊎_elim
    (λ (k : ltb N b ≡ true). let z : true ≡ false = sym (t N (ltb-false _ _ g) (ltb-true _ _ k)) ∙ e in absurd (let y : ◌≡◌ {A = ℕ} 0 1 = cc in omega arith))
    (λ (k : ltb N b ≡ false). inr (ltb-false _ _ k)) (which (ltb N b)))
    (which (ltb N a))) ih))
    (which (f N))
  where
    last_in : (s a b N : ℕ) → a ≤ N → N < b → s ≡ min b N - min a N → 1 + s ≡ min b (suc N) - min a (suc N)
    last_in s a b N h g e = omega arith

    last_out : (s a b N : ℕ) → a ≤ b → (N < a) ⊎ (b ≤ N) → s ≡ min b N - min a N → 0 + s ≡ min b (suc N) - min a (suc N)
    last_out s a b N h (inl g) e = omega arith
    last_out s a b N h (inr g) e = omega arith

pub count_or : (f g : ℕ → Bool) (N : ℕ) → ((n : ℕ) → f n ≡ true → g n ≡ true → ⊥) → count_to (λ n. f n || g n) N ≡ count_to f N + count_to g N
unfolding count_to one
count_or f g zero d = refl
count_or f g (suc N) d = omega (arith, count_or f g N d, both (f N) (g N) (d N))
  where
    both : (p q : Bool) → (p ≡ true → q ≡ true → ⊥) → one (p || q) ≡ one p + one q
    both true true h = absurd (h refl refl)
    both true false h = refl
    both false q h = sym (zero_plus (one q))
      where
        zero_plus : (x : ℕ) → 0 + x ≡ x
        zero_plus x = omega arith

count_none : (N : ℕ) → count_to (λ n. false) N ≡ 0
unfolding count_to one
count_none zero = refl
count_none (suc N) = omega (arith, count_none N)

pub count_cong : (f g : ℕ → Bool) (N : ℕ) → ((n : ℕ) → f n ≡ g n) → count_to f N ≡ count_to g N
unfolding count_to
count_cong f g zero h = refl
count_cong f g (suc N) h = ap₂ (λ (t : Bool) (m : ℕ). one t + m) (h N) (count_cong f g N h)

pub hi_le : {x : ℕ} → Cell x → hi x ≤ 6 * 2 ^ 60
hi_le {x} C =
    let L = C.0 in
    let u : 2 * L + place_at L ≡ 60 = omega (arith, C.2.level) in
    let w : 2 ^ (2 * L) * bit_at L ≡ 2 ^ 60 = sym (pow-add 2 (2 * L) (place_at L)) ∙ ap (λ (n : ℕ). 2 ^ n) u in
    let m : (C.1 + 1) * bit_at L ≤ 6 * 2 ^ (2 * L) * bit_at L = mul-le-mul_right (bit_at L) (omega (arith, C.2.place)) in
    omega (arith, hi_is C.2, add-mul C.1 1 (bit_at L), one-mul (bit_at L), mul_assoc 6 (2 ^ (2 * L)) (bit_at L))

-- a cell's leaves
size : {x : ℕ} → Cell x → leaves_of x ≡ hi x - lo x
unfolding leaves_of
size {x} C = ap (λ (L : ℕ). 2 ^ (2 * (30 - L))) (level_cell x C.0 C.1 C.2) ∙ omega (arith, lo_is C.2, hi_is C.2)

pub cell_leaves : {x : ℕ} (N : ℕ) → Cell x → hi x ≤ N → count_to (has_leaf x) N ≡ leaves_of x
cell_leaves {x} N C h =
    let s = span C in
    count_stretch (has_leaf x) (lo x) (hi x) N (omega arith) (λ n p q. leaf← n C p q) (λ n t. leaf→ n C t) ∙ omega (arith, size C)

-- the leaves of a list free of overlap
pub leaf_count : (N : ℕ) (l : List ℕ) → All Cell l → Apart l → All (λ y. hi y ≤ N) l → count_to (covers l) N ≡ leaf_sum l
unfolding covers leaf_sum All Apart
leaf_count N [] C A B = count_none N
leaf_count N (x ∷ l) C A B =
    let s = span C.0 in
    let a = cell_leaves N C.0 B.0 in
    let c : count_to (covers l) N ≡ leaf_sum l = leaf_count N l C.1 A.1 B.1 in
    count_or (has_leaf x) (covers l) N (λ n t u.
    let w = leaf→ n C.0 t in
    let k = covers→ l n C.1 u in
    let h : last_leaf x < first_leaf k.0 = all_at (λ y. last_leaf x < first_leaf y) l A.0 k.0 k.1 in
    let v = span (all_at Cell l C.1 k.0 k.1) in
    omega (arith, w.1, k.2))
    ∙ omega (arith, B.0)

-- counted over all leaves
pub leaves_count : (l : List ℕ) → All Cell l → Apart l → count_to (covers l) (6 * 2 ^ 60) ≡ leaf_sum l
leaves_count l C A = leaf_count (6 * 2 ^ 60) l C A (at_all (λ y. hi y ≤ 6 * 2 ^ 60) l (λ y m. hi_le (all_at Cell l C y m)))
