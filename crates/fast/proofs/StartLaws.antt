-- The adjustment of start cells, and the start cells: their levels, how many they are, and what they cover.
use mathlib.Core.Path.{◌≡◌, refl, sym, ap, ap₂, ◌∙◌, subst}
use mathlib.Core.Bool.{true, false}
use mathlib.Core.Logic.{◌⊎◌, inl, inr, ⊎_elim, by_cases}
use mathlib.Core.List.{List, [], ◌∷◌, ◌++◌}
use Prim.Native.Nat.{ℕ, suc, ◌+◌, ◌-◌, ◌%◌, ◌≤◌, ◌<◌, min, max}
use native.Mathlib.Nat.{mod-one, mul-one}
use native.Mathlib.Decide.{dec_lt}
use native.Mathlib.Omega.{arith}
use lib.ListN.{length}
use borrow.Author.Tests.{lt-ltb, le-ltb}
use Rattle.cellid.specs.CellId.{Cell, IsCell, level_of, place_of, parent_at, holds}
use Rattle.cellid.proofs.Laws.{level_le, level_cell, place_id}
use Rattle.order.specs.Order.{All}
use Rattle.order.proofs.OrderLaws.{which, all_weak}
use Rattle.cellunion.specs.CellUnion.{lo, hi, covers, Member, Apart}
use Rattle.denorm.specs.Denorm.{goal, cells_from, below, denormalise}
use Rattle.cellunion.proofs.Spans.{holds_in}
use Rattle.cellunion.proofs.Unique.{all_at, at_all, Covered, covers→, covers←}
use Rattle.cellunion.proofs.Stack.{Cov, cov_in}
use Rattle.cellunion.proofs.Norm.{member_rev←, all_rev, length_rev}
use Rattle.fast.specs.Fast.{adjusted, merged_covering, fast_covering, keep_start, keep_starts, adjusted_cells, starts_of}
use Rattle.fast.proofs.Levels.{Ancestor, ancestor, adjusted_le, adjusted_on, Under}
use Rattle.fast.proofs.Laws.{Covering, merged_covering_lem}
use Rattle.fast.proofs.Six.{merged_six}

-- ---- one more cell

pub keep_skip : (t : ℕ) (s : List ℕ) (c : ℕ) → holds t c ≡ true → keep_start (t ∷ s) c ≡ t ∷ s
unfolding keep_start
keep_skip t s c e = rw (keep_start, e)

pub keep_swap : (t : ℕ) (s : List ℕ) (c : ℕ) → holds t c ≡ false → holds c t ≡ true → keep_start (t ∷ s) c ≡ c ∷ s
unfolding keep_start
keep_swap t s c e f = rw (keep_start, e, f)

pub keep_push : (t : ℕ) (s : List ℕ) (c : ℕ) → holds t c ≡ false → holds c t ≡ false → keep_start (t ∷ s) c ≡ c ∷ t ∷ s
unfolding keep_start
keep_push t s c e f = rw (keep_start, e, f)

-- what is kept has every property that the three outcomes have
keep_cases : (P : List ℕ → Type 0) (t : ℕ) (s : List ℕ) (c : ℕ) → (holds t c ≡ true → P (t ∷ s)) → (holds c t ≡ true → P (c ∷ s)) → P (c ∷ t ∷ s) → P (keep_start (t ∷ s) c)
keep_cases P t s c skip swap push = ⊎_elim
    (λ (e : holds t c ≡ true). rw (keep_skip t s c e) (skip e))
    (λ (e : holds t c ≡ false). ⊎_elim
    (λ (f : holds c t ≡ true). rw (keep_swap t s c e f) (swap f))
    (λ (f : holds c t ≡ false). rw (keep_push t s c e f) push)
    (which (holds c t)))
    (which (holds t c))

pub keep_all : (Q : ℕ → Type 0) (s : List ℕ) (c : ℕ) → All Q s → Q c → All Q (keep_start s c)
unfolding All keep_start
keep_all Q [] c h q = (q, tt)
keep_all Q (t ∷ s) c h q = keep_cases (All Q) t s c (λ e. h) (λ e. (q, h.1)) (q, h)

keep_short : (s : List ℕ) (c : ℕ) → length (keep_start s c) ≤ suc (length s)
unfolding keep_start
keep_short [] c = omega arith
keep_short (t ∷ s) c = keep_cases (λ r. length r ≤ suc (suc (length s))) t s c (λ e. omega arith) (λ e. omega arith) (omega arith)

keep_cover : (s : List ℕ) (c : ℕ) → All Cell s → Cell c → Cov (c ∷ s) (keep_start s c)
unfolding All Member keep_start
keep_cover [] c A C = λ n w. w
keep_cover (t ∷ s) c A C = keep_cases (Cov (c ∷ t ∷ s)) t s c
    (λ e. cov_in c t (t ∷ s) (t ∷ s) (holds_in A.0 C e) (inl refl) (λ n w. w))
    (λ e. cov_in c c (t ∷ s) (c ∷ s) (omega arith, omega arith) (inl refl) (cov_in t c s (c ∷ s) (holds_in C A.0 e) (inl refl) (λ n w. (w.0, inr w.1, w.2, w.3))))
    (λ n w. w)

-- ---- all of them

abbrev pub raised : ℕ → ℕ → ℕ → ℕ
raised low step id = parent_at id (adjusted low step (level_of id))

pub raised_is : (low step id : ℕ) → Cell id → Ancestor id (adjusted low step (level_of id)) (raised low step id)
raised_is low step id c = ancestor id (adjusted low step (level_of id)) c (adjusted_le low step (level_of id))

module _ (low step : ℕ) where
  keep_starts_all : (Q : ℕ → Type 0) (l s : List ℕ) → All Q s → All (λ x. Q (raised low step x)) l → All Q (keep_starts low step s l)
  unfolding All keep_starts
  keep_starts_all Q [] s h g = h
  keep_starts_all Q (x ∷ l) s h g = keep_starts_all Q l (keep_start s (raised low step x)) (keep_all Q s (raised low step x) h g.0) g.1

  keep_starts_short : (l s : List ℕ) → length (keep_starts low step s l) ≤ length s + length l
  unfolding keep_starts
  keep_starts_short [] s = omega arith
  keep_starts_short (x ∷ l) s = omega (arith, keep_starts_short l (keep_start s (raised low step x)), keep_short s (raised low step x))

  -- a leaf under a kept cell, or under one that is still to come, lies under one that is kept in the end
  keep_starts_cover : (l s : List ℕ) → All Cell s → All Cell l → (n : ℕ) → Covered s n ⊎ Covered l n → Covered (keep_starts low step s l) n
  unfolding All Member keep_starts
  keep_starts_cover [] s A C n (inl w) = w
  keep_starts_cover [] s A C n (inr w) = absurd w.1
  keep_starts_cover (x ∷ l) s A C n h =
      let u = raised_is low step x C.0 in
      let go = keep_starts_cover l (keep_start s (raised low step x)) (keep_all Cell s (raised low step x) A u.cell) C.1 n in
      let kept = keep_cover s (raised low step x) A u.cell n in
      ⊎_elim
      (λ (w : Covered s n). go (inl (kept (w.0, inr w.1, w.2, w.3))))
      (λ (w : Covered (x ∷ l) n). ⊎_elim
      (λ (q : w.0 ≡ x). go (inl (kept (raised low step x, inl refl, omega (arith, w.2, ap lo q, u.within.0), omega (arith, w.3, ap hi q, u.within.1)))))
      (λ (m : Member w.0 l). go (inr (w.0, m, w.2, w.3)))
      w.1)
      h

  adjusted_all : (Q : ℕ → Type 0) (l : List ℕ) → All (λ x. Q (raised low step x)) l → All Q (adjusted_cells low step l)
  unfolding All adjusted_cells
  adjusted_all Q l g = all_rev Q (keep_starts low step [] l) (keep_starts_all Q l [] tt g)

  pub adjusted_short : (l : List ℕ) → length (adjusted_cells low step l) ≤ length l
  unfolding adjusted_cells
  adjusted_short l = omega (arith, keep_starts_short l [], length_rev (keep_starts low step [] l))

  adjusted_cover : (l : List ℕ) → All Cell l → Cov l (adjusted_cells low step l)
  unfolding All adjusted_cells
  adjusted_cover l C n w = let v = keep_starts_cover l [] tt C n (inr w) in (v.0, member_rev← (keep_starts low step [] l) v.0 v.1, v.2, v.3)

-- ---- with min 0 and steps of one level denormalising changes nothing

own_goal : (L : ℕ) → L ≤ 30 → goal 0 1 L ≡ L
unfolding goal
own_goal L h = rw (mod-one (30 - (max L 0 - 0))) (omega arith)

own_below : (id L p : ℕ) → IsCell id L p → below (level_of id) id ≡ id ∷ []
unfolding below cells_from
own_below id L p c =
    let z : level_of id - level_of id ≡ 0 = omega arith in
    let q : place_of id ≡ p = ap place_of c.is ∙ place_id L p in
    rw (z, mul-one (place_of id), q, level_cell id L p c) (ap (λ (x : ℕ). x ∷ []) (sym c.is))

pub denormalise_own : (l : List ℕ) → All Cell l → denormalise 0 1 l ≡ l
unfolding denormalise All
denormalise_own [] C = refl
denormalise_own (id ∷ l) C =
    ap₂ (λ (a b : List ℕ). a ++ b) (ap (λ (L : ℕ). below L id) (own_goal (level_of id) (level_le id)) ∙ own_below id C.0.0 C.0.1 C.0.2) (denormalise_own l C.1)

-- ---- start cells

module _ (low top step cells : ℕ) (bound : List ℕ) (C : All Cell bound) where
  pub rough_laws : Covering 0 top 1 bound (merged_covering 0 top 1 (min cells 4) bound)
  rough_laws = merged_covering_lem 0 top 1 (min cells 4) bound (omega arith) C

  rough_fast : fast_covering 0 top 1 (min cells 4) bound ≡ merged_covering 0 top 1 (min cells 4) bound
  unfolding fast_covering
  rough_fast = denormalise_own (merged_covering 0 top 1 (min cells 4) bound) rough_laws.normal.cells

  pub starts_rough : step ≤ 1 → starts_of low top step cells bound ≡ merged_covering 0 top 1 (min cells 4) bound
  unfolding starts_of
  starts_rough h = rw (starts_of, le-ltb 1 step h) rough_fast

  pub starts_adjusted : 1 < step → starts_of low top step cells bound ≡ adjusted_cells low step (merged_covering 0 top 1 (min cells 4) bound)
  unfolding starts_of
  starts_adjusted h = rw (starts_of, lt-ltb 1 step h) (ap (adjusted_cells low step) rough_fast)

-- at most max, and on step where at min or above
abbrev pub StartLevel : ℕ → ℕ → ℕ → ℕ → Type 0
StartLevel low top step L = (L ≤ top) × ((L - low) % step ≡ 0)

raised_level : (low top step id : ℕ) → Cell id → level_of id ≤ top → StartLevel low top step (level_of (raised low step id))
raised_level low top step id c h = rw (raised_is low step id c).level (omega (arith, adjusted_le low step (level_of id)), adjusted_on low step (level_of id))

-- valid, on such levels, at most six, in steps of one level free of overlap; and every leaf of the bound lies under one
pub record Starting (low top step : ℕ) (bound r : List ℕ) : Type 0 where
  pub cells : All Cell r
  pub levels : All (λ id. StartLevel low top step (level_of id)) r
  pub few : length r ≤ 6
  pub apart : step ≤ 1 → Apart r
  pub leaves : (n : ℕ) → covers bound n ≡ true → covers r n ≡ true

pub starts_laws : (low top step cells : ℕ) (bound : List ℕ) → 0 < step → All Cell bound → Starting low top step bound (starts_of low top step cells bound)
starts_laws low top step cells bound p C =
    let m = merged_covering 0 top 1 (min cells 4) bound in
    let M = rough_laws low top step cells bound C in
    let six = merged_six top cells bound C in
    let level : (x : ℕ) → Member x m → level_of x ≤ top = λ x k. let u = all_at (λ z. Under 0 top 1 (level_of z)) m M.under x k in omega (arith, u.le, u.on.to) in
    by_cases (dec_lt 1 step)
    (λ h.
    let r = adjusted_cells low step m in
    let A = adjusted_all low step Cell m (all_weak Cell (λ x. Cell (raised low step x)) m (λ x k. (raised_is low step x k).cell) M.normal.cells) in
    subst (Starting low top step bound) (sym (starts_adjusted low top step cells bound C h)) (record {
      cells = A;
      levels = adjusted_all low step (λ id. StartLevel low top step (level_of id)) m (at_all (λ x. StartLevel low top step (level_of (raised low step x))) m (λ x k.
          raised_level low top step x (all_at Cell m M.normal.cells x k) (level x k)));
      few = omega (arith, adjusted_short low step m);
      apart = λ g. absurd (omega arith);
      leaves = λ n t. covers← r n A (adjusted_cover low step m M.normal.cells n (M.cover n (covers→ bound n C t)));
    }))
    (λ h.
    let e : step ≡ 1 = omega arith in
    subst (Starting low top step bound) (sym (starts_rough low top step cells bound C (omega arith))) (record {
      cells = M.normal.cells;
      levels = at_all (λ id. StartLevel low top step (level_of id)) m (λ x k. (level x k, rw e (mod-one (level_of x - low))));
      few = six;
      apart = λ g. M.normal.apart;
      leaves = λ n t. covers← m n M.normal.cells (M.cover n (covers→ bound n C t));
    }))
