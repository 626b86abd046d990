-- `denormalise`: the same leaves, ascending, the count, and the levels.
use mathlib.Core.Path.{◌≡◌, refl, sym, ap, ap₂, ◌∙◌, subst}
use mathlib.Core.Logic.{inl, inr, ⊎_elim}
use mathlib.Core.Bool.{true, false}
use mathlib.Core.List.{List, [], ◌∷◌, ◌++◌}
use Prim.Native.Nat.{ℕ, zero, suc, ◌+◌, ◌-◌, ◌*◌, ◌/◌, ◌%◌, ◌^◌, ◌≤◌, ◌<◌, min, max}
use native.Mathlib.Nat.{add-mul, one-mul, mul_assoc, mod-le, mod-add-mod, add-mod-mod, mul-le-mul_right, lt_of_mul-lt-mul_right, zero-add, div-mul-le_self, lt-div-mul-add}
use native.Mathlib.Omega.{arith}
use lib.Dec.{ltb}
use lib.Pow.{pow_pos, pow-add}
use lib.ListN.{length, length-append}
use borrow.Author.Tests.{ltb-true, ltb-false}
use Rattle.cellid.specs.CellId.{Cell, IsCell, id_of, bit_at, place_at, level_of, place_of, first_leaf, last_leaf}
use Rattle.cellid.proofs.Laws.{bit_up, level_id, place_id, level_cell, is_cell}
use Rattle.cellunion.specs.CellUnion.{lo, hi, SameLeaves, Member, Apart, normalise}
use Rattle.denorm.specs.Denorm.{goal, cells_from, below, denormalise, count_of, OnStep}
use Rattle.order.specs.Order.{All}
use Rattle.order.proofs.OrderLaws.{which}
use Rattle.cellunion.proofs.Spans.{lo_is, hi_is, span, In, in_level}
use Rattle.cellunion.proofs.Unique.{all_at, at_all, Covered, member_append→, member_append←, apart_append, raw_in}
use Rattle.cellunion.proofs.Stack.{Cov}
use Rattle.cellunion.proofs.Norm.{same_covered, normalise_normal, normalise_leaves}

pub length_cells : (L n p : ℕ) → length (cells_from L p n) ≡ n
unfolding cells_from
length_cells L zero p = refl
length_cells L (suc n) p = ap suc (length_cells L n (p + 1))

-- a member is some place's cell
pub cells_at : (L n p x : ℕ) → Member x (cells_from L p n) → (j : ℕ) × (p ≤ j) × (j < p + n) × (x ≡ id_of L j)
unfolding cells_from Member
cells_at L zero p x m = absurd m
cells_at L (suc n) p x m = ⊎_elim (λ e. (p, omega arith, omega arith, e))
    (λ m. let r = cells_at L n (p + 1) x m in (r.0, omega (arith, r.1), omega (arith, r.2), r.3)) m

-- and each place in reach is there
pub at_cells : (L n p j : ℕ) → p ≤ j → j < p + n → Member (id_of L j) (cells_from L p n)
unfolding cells_from Member
at_cells L zero p j h g = absurd (omega arith)
at_cells L (suc n) p j h g = ⊎_elim
    (λ (t : ltb p j ≡ true). let l : p < j = ltb-true _ _ t in inr (at_cells L n (p + 1) j (omega arith) (omega arith)))
    (λ (t : ltb p j ≡ false). let l : j ≤ p = ltb-false _ _ t in let e : j ≡ p = omega arith in inl (ap (id_of L) e))
    (which (ltb p j))

-- ---- one cell

pub record Spread (id M : ℕ) (r : List ℕ) : Type 0 where
  pub cells : All Cell r
  pub apart : Apart r
  pub to : (n : ℕ) → lo id ≤ n → n < hi id → Covered r n
  pub each : (y : ℕ) → Member y r → In y id × (level_of y ≡ M)

cells_apart : (L n p : ℕ) → L ≤ 30 → p + n ≤ 6 * 2 ^ (2 * L) → Apart (cells_from L p n)
unfolding cells_from Apart
cells_apart L zero p h g = tt
cells_apart L (suc n) p h g = (
  at_all (λ y. last_leaf (id_of L p) < first_leaf y) (cells_from L (p + 1) n) (λ y m.
      let r = cells_at L n (p + 1) y m in
      let c = is_cell L p h (omega arith) in
      let d = is_cell L r.0 h (omega (arith, r.2)) in
      let u = span (L, p, c) in
      let v = span (L, r.0, d) in
      let e : (p + 1) * bit_at L ≤ r.0 * bit_at L = mul-le-mul_right (bit_at L) r.1 in
      omega (arith, ap first_leaf r.3, lo_is d, hi_is c, add-mul p 1 (bit_at L), one-mul (bit_at L))),
  cells_apart L n (p + 1) h (omega arith),
)

-- a leaf's place at a level
place_of_lem : (n a m C : ℕ) → 0 < C → a * C ≤ n → n < (a + m) * C → (j : ℕ) × (a ≤ j) × (j < a + m) × (j * C ≤ n) × (n < j * C + C)
place_of_lem n a m C c h g =
    let a1 : n / C * C ≤ n = div-mul-le_self n C in
    let a2 : n < n / C * C + C = lt-div-mul-add c in
    let e : (n / C + 1) * C ≡ n / C * C + C = add-mul (n / C) 1 C ∙ ap (λ (x : ℕ). n / C * C + x) (one-mul C) in
    let b1 : a < n / C + 1 = lt_of_mul-lt-mul_right C (omega arith) in
    let b2 : n / C < a + m = lt_of_mul-lt-mul_right C (omega arith) in
    (n / C, omega arith, b2, a1, a2)

pub room_core : (p L k : ℕ) → p < 6 * 2 ^ (2 * L) → p * 2 ^ (2 * k) + 2 ^ (2 * k) ≤ 6 * 2 ^ (2 * (L + k))
room_core p L k h =
    let n : 2 * (L + k) ≡ 2 * L + 2 * k = omega arith in
    let e : 2 ^ (2 * (L + k)) ≡ 2 ^ (2 * L) * 2 ^ (2 * k) = ap (λ (x : ℕ). 2 ^ x) n ∙ pow-add 2 (2 * L) (2 * k) in
    let g : (p + 1) * 2 ^ (2 * k) ≤ 6 * 2 ^ (2 * L) * 2 ^ (2 * k) = mul-le-mul_right (2 ^ (2 * k)) (omega arith) in
    omega (arith, add-mul p 1 (2 ^ (2 * k)), one-mul (2 ^ (2 * k)), mul_assoc 6 (2 ^ (2 * L)) (2 ^ (2 * k)))

spread_core : (id L p k : ℕ) → IsCell id L p → L + k ≤ 30 → Spread id (L + k) (cells_from (L + k) (p * 2 ^ (2 * k)) (2 ^ (2 * k)))
spread_core id L p k c h =
    let D = 2 ^ (2 * k) in
    let C = bit_at (L + k) in
    let up : bit_at L ≡ D * C = bit_up L k h in
    let l : lo id ≡ p * D * C = lo_is c ∙ ap (λ (x : ℕ). p * x) up ∙ sym (mul_assoc p D C) in
    let r : hi id ≡ p * D * C + D * C = hi_is c ∙ ap (λ (x : ℕ). p * x + x) up ∙ ap (λ (x : ℕ). x + D * C) (sym (mul_assoc p D C)) in
    let room : p * D + D ≤ 6 * 2 ^ (2 * (L + k)) = room_core p L k c.place in
    record {
      cells = at_all Cell (cells_from (L + k) (p * D) D) (λ y m. let w = cells_at (L + k) D (p * D) y m in
          (L + k, w.0, subst (λ (z : ℕ). IsCell z (L + k) w.0) (sym w.3) (is_cell (L + k) w.0 h (omega (arith, w.2)))));
      apart = cells_apart (L + k) D (p * D) h room;
      to = λ n a b.
          let w = place_of_lem n (p * D) D C (pow_pos (place_at (L + k))) (omega arith) (omega (arith, add-mul (p * D) D C)) in
          let d = is_cell (L + k) w.0 h (omega (arith, w.2)) in
          (id_of (L + k) w.0, at_cells (L + k) D (p * D) w.0 w.1 w.2, omega (arith, lo_is d, w.3), omega (arith, hi_is d, w.4));
      each = λ y m.
          let w = cells_at (L + k) D (p * D) y m in
          let d = is_cell (L + k) w.0 h (omega (arith, w.2)) in
          let e : p * D * C ≤ w.0 * C = mul-le-mul_right C w.1 in
          let f : (w.0 + 1) * C ≤ (p * D + D) * C = mul-le-mul_right C (omega (arith, w.2)) in
          ((omega (arith, ap lo w.3, lo_is d), omega (arith, ap hi w.3, hi_is d, add-mul w.0 1 C, one-mul C, add-mul (p * D) D C)), ap level_of w.3 ∙ level_id (L + k) w.0 h);
    }

pub below_laws : (id L p M : ℕ) → IsCell id L p → L ≤ M → M ≤ 30 → Spread id M (below M id)
unfolding below
below_laws id L p M c h g =
    let l : level_of id ≡ L = level_cell id L p c in
    let q : place_of id ≡ p = ap place_of c.is ∙ place_id L p in
    let e : L + (M - L) ≡ M = omega arith in
    rw (l, q) (subst (λ (n : ℕ). Spread id n (cells_from n (p * 2 ^ (2 * (M - L))) (2 ^ (2 * (M - L))))) e (spread_core id L p (M - L) c (omega arith)))

pub length_below : (M id : ℕ) → length (below M id) ≡ 2 ^ (2 * (M - level_of id))
unfolding below
length_below M id = length_cells M _ _

-- ---- the list

pub goal_in : (low step L : ℕ) → L ≤ 30 → (L ≤ goal low step L) × (goal low step L ≤ 30)
unfolding goal
goal_in low step L h = (omega arith, omega arith)

pub below_goal : (low step id : ℕ) → Cell id → Spread id (goal low step (level_of id)) (below (goal low step (level_of id)) id)
below_goal low step id C =
    let l : level_of id ≡ C.0 = level_cell id C.0 C.1 C.2 in
    let r = goal_in low step (level_of id) (omega (arith, C.2.level)) in
    below_laws id C.0 C.1 (goal low step (level_of id)) C.2 (omega (arith, r.0)) r.1

pub record Refined (low step : ℕ) (l r : List ℕ) : Type 0 where
  pub cells : All Cell r
  pub to : Cov l r
  pub each : (y : ℕ) → Member y r → (d : ℕ) × Member d l × In y d × (level_of y ≡ goal low step (level_of d))

refine_step : (low step id : ℕ) (l r b : List ℕ) → Spread id (goal low step (level_of id)) b → Refined low step l r → Refined low step (id ∷ l) (b ++ r)
unfolding Member
refine_step low step id l r b S R = record {
  cells = at_all Cell (b ++ r) (λ y m. ⊎_elim (λ k. all_at Cell b S.cells y k) (λ k. all_at Cell r R.cells y k) (member_append→ b r y m));
  to = λ n k. ⊎_elim
      (λ (e : k.0 ≡ id). let w = S.to n (omega (arith, k.2, ap lo e)) (omega (arith, k.3, ap hi e)) in (w.0, member_append← b r w.0 (inl w.1), w.2, w.3))
      (λ m. let w = R.to n (k.0, m, k.2, k.3) in (w.0, member_append← b r w.0 (inr w.1), w.2, w.3)) k.1;
  each = λ y m. ⊎_elim
      (λ k. let w = S.each y k in (id, inl refl, w.0, w.1))
      (λ k. let w = R.each y k in (w.0, inr w.1, w.2, w.3)) (member_append→ b r y m);
}

pub denormalise_laws : (low step : ℕ) (l : List ℕ) → All Cell l → Refined low step l (denormalise low step l)
unfolding denormalise All Member
denormalise_laws low step [] C = record { cells = tt; to = λ n k. k; each = λ y m. absurd m }
denormalise_laws low step (id ∷ l) C =
    refine_step low step id l (denormalise low step l) (below (goal low step (level_of id)) id) (below_goal low step id C.0) (denormalise_laws low step l C.1)

pub denormalise_leaves : (low step : ℕ) (l : List ℕ) → All Cell l → SameLeaves (denormalise low step l) l
denormalise_leaves low step l C =
    let R = denormalise_laws low step l C in
    same_covered (denormalise low step l) l R.cells C
    (λ n k. let w = R.each k.0 k.1 in (w.0, w.1, omega (arith, k.2, w.2.0), omega (arith, k.3, w.2.1)))
    R.to

pub denormalise_apart : (low step : ℕ) (l : List ℕ) → All Cell l → Apart l → Apart (denormalise low step l)
unfolding denormalise All Apart
denormalise_apart low step [] C A = tt
denormalise_apart low step (id ∷ l) C A =
    let S = below_goal low step id C.0 in
    let R = denormalise_laws low step l C.1 in
    apart_append (below (goal low step (level_of id)) id) (denormalise low step l) S.apart (denormalise_apart low step l C.1 A.1) (λ x y m k.
    let i = S.each x m in
    let j = R.each y k in
    let f : last_leaf id < first_leaf j.0 = all_at (λ y. last_leaf id < first_leaf y) l A.0 j.0 j.1 in
    let si = span C.0 in
    let sj = span (all_at Cell l C.1 j.0 j.1) in
    let sx = span (all_at Cell (below (goal low step (level_of id)) id) S.cells x m) in
    let sy = span (all_at Cell (denormalise low step l) R.cells y k) in
    omega (arith, i.0.0, i.0.1, j.2.0, j.2.1))

pub length_denormalise : (low step : ℕ) (l : List ℕ) → length (denormalise low step l) ≡ count_of low step l
unfolding denormalise count_of
length_denormalise low step [] = refl
length_denormalise low step (id ∷ l) = length-append (below (goal low step (level_of id)) id) (denormalise low step l) ∙ ap₂ (λ (x y : ℕ). x + y) (length_below (goal low step (level_of id)) id) (length_denormalise low step l)

-- ---- levels. 30 is a whole number of steps, for 1, 2 and 3.

same_rest : (a b s : ℕ) → a % s ≡ 0 → (a + b) % s ≡ b % s
same_rest a b s e = sym (mod-add-mod a s b) ∙ ap (λ (x : ℕ). (x + b) % s) e ∙ ap (λ (x : ℕ). x % s) (zero-add b)

whole_rest : (a b s : ℕ) → (a + b) % s ≡ 0 → a % s ≡ 0 → b % s ≡ 0
whole_rest a b s e f = sym (same_rest a b s f) ∙ e

-- d levels past low, g whole steps past low: the rest fits between
pub rest_small : (step d g : ℕ) → 30 % step ≡ 0 → g ≤ 30 → d ≤ g → g % step ≡ 0 → (30 - d) % step ≤ g - d
rest_small step d g w t f on =
    let u : (30 - g) % step ≡ 0 = whole_rest g (30 - g) step (let e : g + (30 - g) ≡ 30 = omega arith in ap (λ (x : ℕ). x % step) e ∙ w) on in
    let e : 30 - d ≡ (30 - g) + (g - d) = omega arith in
    let v : (30 - d) % step ≡ (g - d) % step = ap (λ (x : ℕ). x % step) e ∙ same_rest (30 - g) (g - d) step u in
    subst (λ (x : ℕ). x ≤ g - d) (sym v) (mod-le (g - d) step)

rest_on : (step d : ℕ) → 30 % step ≡ 0 → d ≤ 30 → (d + (30 - d) % step) % step ≡ 0
rest_on step d w t = add-mod-mod d (30 - d) step ∙ (let e : d + (30 - d) ≡ 30 = omega arith in ap (λ (x : ℕ). x % step) e ∙ w)

goal_core : (low top step d g m ρ : ℕ) → top ≤ 30 → low + g ≤ top → m ≡ low + d → d ≤ g → ρ ≤ g - d → (d + ρ) % step ≡ 0 → OnStep low top step (min 30 (m + ρ))
goal_core low top step d g m ρ t r e f small on =
    let is : min 30 (m + ρ) ≡ low + (d + ρ) = omega arith in
    let is' : min 30 (m + ρ) - low ≡ d + ρ = omega (arith, is) in
    record { from = omega (arith, is); to = omega (arith, is); on = ap (λ (x : ℕ). x % step) is' ∙ on }

pub goal_on : (low top step L r : ℕ) → 30 % step ≡ 0 → top ≤ 30 → L ≤ r → OnStep low top step r → OnStep low top step (goal low step L)
unfolding goal
goal_on low top step L r w t h R =
    let f : max L low - low ≤ r - low = omega (arith, R.from) in
    goal_core low top step (max L low - low) (r - low) (max L low) ((30 - (max L low - low)) % step) t (omega (arith, R.from, R.to)) (omega arith) f
    (rest_small step (max L low - low) (r - low) w (omega (arith, R.to)) f R.on)
    (rest_on step (max L low - low) w (omega (arith, R.to)))

pub final_levels : (low top step : ℕ) (raw : List ℕ) → 30 % step ≡ 0 → top ≤ 30 → All Cell raw
    → All (λ id. OnStep low top step (level_of id)) raw
    → All (λ id. OnStep low top step (level_of id)) (denormalise low step (normalise raw))
final_levels low top step raw w t C O =
    let N = normalise_normal raw C in
    let R = denormalise_laws low step (normalise raw) N.cells in
    at_all (λ id. OnStep low top step (level_of id)) (denormalise low step (normalise raw)) (λ y m.
    let k = R.each y m in
    let D = all_at Cell (normalise raw) N.cells k.0 k.1 in
    let q = raw_in raw (normalise raw) C N (normalise_leaves raw C) k.0 k.1 in
    let Q = all_at Cell raw C q.0 q.1 in
    let lq : level_of q.0 ≡ Q.0 = level_cell q.0 Q.0 Q.1 Q.2 in
    let ld : level_of k.0 ≡ D.0 = level_cell k.0 D.0 D.1 D.2 in
    let h : D.0 ≤ Q.0 = in_level Q.0 D.0 Q.1 D.1 Q.2 D.2 q.2 in
    subst (OnStep low top step) (sym k.3) (goal_on low top step (level_of k.0) (level_of q.0) w t (omega arith) (all_at (λ id. OnStep low top step (level_of id)) raw O q.0 q.1)))

pub final_leaves : (low step : ℕ) (raw : List ℕ) → All Cell raw → SameLeaves (denormalise low step (normalise raw)) raw
final_leaves low step raw C n = denormalise_leaves low step (normalise raw) (normalise_normal raw C).cells n ∙ normalise_leaves raw C n

pub final_apart : (low step : ℕ) (raw : List ℕ) → All Cell raw → Apart (denormalise low step (normalise raw))
final_apart low step raw C = denormalise_apart low step (normalise raw) (normalise_normal raw C).cells (normalise_normal raw C).apart

-- every cell of the level M inside id is there
pub below_all : (id L p M y q : ℕ) → IsCell id L p → L ≤ M → IsCell y M q → In y id → Member y (below M id)
unfolding below
below_all id L p M y q c h d i =
    let l : level_of id ≡ L = level_cell id L p c in
    let e : place_of id ≡ p = ap place_of c.is ∙ place_id L p in
    rw (l, e, d.is) (below_at id L p M y q c h d i)
  where
    below_at : (id L p M y q : ℕ) → IsCell id L p → L ≤ M → IsCell y M q → In y id → Member (id_of M q) (cells_from M (p * 2 ^ (2 * (M - L))) (2 ^ (2 * (M - L))))
    below_at id L p M y q c h d i =
        let D = 2 ^ (2 * (M - L)) in
        let C = bit_at M in
        let n : L + (M - L) ≡ M = omega arith in
        let up : bit_at L ≡ D * C = bit_up L (M - L) (omega (arith, d.level)) ∙ ap (λ (z : ℕ). D * bit_at z) n in
        let a : lo id ≡ p * D * C = lo_is c ∙ ap (λ (x : ℕ). p * x) up ∙ sym (mul_assoc p D C) in
        let b : hi id ≡ p * D * C + D * C = hi_is c ∙ ap (λ (x : ℕ). p * x + x) up ∙ ap (λ (x : ℕ). x + D * C) (sym (mul_assoc p D C)) in
        let u : p * D < q + 1 = lt_of_mul-lt-mul_right C (omega (arith, i.0, lo_is d, add-mul q 1 C, one-mul C, pow_pos (place_at M))) in
        let v : q < p * D + D = lt_of_mul-lt-mul_right C (omega (arith, i.1, hi_is d, add-mul (p * D) D C, pow_pos (place_at M))) in
        at_cells M D (p * D) q (omega arith) v
