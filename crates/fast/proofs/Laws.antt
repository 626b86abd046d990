-- What fast covering makes of a list of cells: a normal list, then cells on step, that cover every leaf of it.
use mathlib.Core.Path.{◌≡◌, refl, sym, ap, ap₂, ◌∙◌, subst}
use mathlib.Core.Bool.{Bool, true, ◌&&◌, and-eq-true_iff}
use mathlib.Core.Logic.{inl, inr}
use mathlib.Core.List.{List, [], ◌∷◌, map}
use Prim.Native.Nat.{ℕ, ◌-◌, ◌*◌, ◌/◌, ◌%◌, ◌^◌, ◌≤◌, ◌<◌, min}
use native.Mathlib.Omega.{arith}
use lib.ListN.{length, length-map}
use lib.Dec.{leb}
use borrow.Author.Tests.{leb-true}
use Rattle.cellid.specs.CellId.{Cell, IsCell, id_of, level_of, parent_at}
use Rattle.cellid.proofs.Laws.{level_cell}
use Rattle.cellid.proofs.Ancestors.{parent_cell}
use Rattle.order.specs.Order.{All}
use Rattle.cellunion.specs.CellUnion.{covers, Member, Apart, Normal, normalise}
use Rattle.denorm.specs.Denorm.{OnStep, denormalise}
use Rattle.cellunion.proofs.Unique.{all_at, at_all, covers→, covers←}
use Rattle.cellunion.proofs.Stack.{Cov, cov_in}
use Rattle.cellunion.proofs.Norm.{normalise_normal, normalise_short}
use Rattle.denorm.proofs.Laws.{denormalise_laws, denormalise_leaves, denormalise_apart, goal_on}
use Rattle.fast.specs.Fast.{adjusted, lifted, merged_covering, fast_covering}
use Rattle.fast.proofs.Levels.{adjusted_one, lifted_is, lifted_under, Under}
use Rattle.fast.proofs.Merging.{AllUnder, merged_laws, normal_cov, normal_under}

-- ---- lifting

-- down to level 30, with steps of one, a cell is its own
own_ancestor : (id L p : ℕ) → IsCell id L p → parent_at id L ≡ id
own_ancestor id L p c =
    let e : 2 * (L - L) ≡ 0 = omega arith in
    (parent_cell L c (omega arith)).is ∙ ap (id_of L) (ap (λ (k : ℕ). p / 2 ^ k) e ∙ omega arith) ∙ sym c.is

lifted_one : (low top step id : ℕ) → 30 ≤ top → 0 < step → step ≤ 1 → Cell id → lifted low top step id ≡ id
unfolding lifted
lifted_one low top step id h s o C =
    let e : min (level_of id) top ≡ C.0 = rw (level_cell id C.0 C.1 C.2) (omega (arith, C.2.level)) in
    ap (λ (L : ℕ). parent_at id (adjusted low step L)) e ∙ ap (parent_at id) (adjusted_one low step C.0 s o) ∙ own_ancestor id C.0 C.1 C.2

lifted_own : (low top step : ℕ) (l : List ℕ) → 30 ≤ top → 0 < step → step ≤ 1 → All Cell l → map (lifted low top step) l ≡ l
unfolding All
lifted_own low top step [] h s o C = refl
lifted_own low top step (x ∷ l) h s o C = ap₂ (λ (y : ℕ) (m : List ℕ). y ∷ m) (lifted_one low top step x h s o C.0) (lifted_own low top step l h s o C.1)

pub lifted_all : (low top step : ℕ) (l : List ℕ) (b : Bool) → 0 < step → All Cell l → b ≡ (leb 30 top && leb step 1) → b ≡ true → map (lifted low top step) l ≡ l
lifted_all low top step l b s C e t = let r = (and-eq-true_iff (leb 30 top) (leb step 1)).0 (sym e ∙ t) in lifted_own low top step l (leb-true 30 top r.0) s (leb-true step 1 r.1) C

pub lifted_cells : (low top step : ℕ) (l : List ℕ) → All Cell l → All Cell (map (lifted low top step) l)
unfolding All
lifted_cells low top step [] C = tt
lifted_cells low top step (x ∷ l) C = ((lifted_is low top step x C.0).cell, lifted_cells low top step l C.1)

lifted_all_under : (low top step : ℕ) (l : List ℕ) → low ≤ top → All Cell l → AllUnder low top step (map (lifted low top step) l)
unfolding All
lifted_all_under low top step [] o C = tt
lifted_all_under low top step (x ∷ l) o C = (lifted_under low top step x o C.0, lifted_all_under low top step l o C.1)

lifted_cover : (low top step : ℕ) (l : List ℕ) → All Cell l → Cov l (map (lifted low top step) l)
unfolding All Member
lifted_cover low top step [] C = λ n w. w
lifted_cover low top step (x ∷ l) C = cov_in x (lifted low top step x) l (map (lifted low top step) (x ∷ l)) (lifted_is low top step x C.0).within (inl refl)
    (λ n w. let v = lifted_cover low top step l C.1 n w in (v.0, inr v.1, v.2, v.3))

-- ---- the normal list

pub record Covering (low top step : ℕ) (l r : List ℕ) : Type 0 where
  pub normal : Normal r
  pub cover : Cov l r
  pub short : length r ≤ length l
  pub under : AllUnder low top step r

pub merged_covering_lem : (low top step cells : ℕ) (l : List ℕ) → low ≤ top → All Cell l → Covering low top step l (merged_covering low top step cells l)
unfolding merged_covering
merged_covering_lem low top step cells l o C =
    let f = map (lifted low top step) l in
    let F = lifted_cells low top step l C in
    let N = normalise_normal f F in
    let M = merged_laws low step cells (length (normalise f)) (normalise f) N.cells in
    record {
      normal = M.normal N;
      cover = λ n w. M.cover n (normal_cov f F n (lifted_cover low top step l C n w));
      short = omega (arith, M.short, normalise_short f F, length-map l (lifted low top step));
      under = M.keeps low top step (normal_under low top step f F (lifted_all_under low top step l o C));
    }

-- ---- fast covering

module _ (low top step cells : ℕ) (l : List ℕ) (o : low ≤ top) (C : All Cell l) where
  M : Covering low top step l (merged_covering low top step cells l)
  M = merged_covering_lem low top step cells l o C

  pub fast_cells : All Cell (fast_covering low top step cells l)
  unfolding fast_covering
  fast_cells = (denormalise_laws low step (merged_covering low top step cells l) M.normal.cells).cells

  pub fast_apart : Apart (fast_covering low top step cells l)
  unfolding fast_covering
  fast_apart = denormalise_apart low step (merged_covering low top step cells l) M.normal.cells M.normal.apart

  -- every leaf of the list is under the answer
  pub fast_leaves : (n : ℕ) → covers l n ≡ true → covers (fast_covering low top step cells l) n ≡ true
  unfolding fast_covering
  fast_leaves n t =
      denormalise_leaves low step (merged_covering low top step cells l) M.normal.cells n
      ∙ covers← (merged_covering low top step cells l) n M.normal.cells (M.cover n (covers→ l n C t))

  -- each level runs from min to max in whole steps of mod from min
  pub fast_levels : 30 % step ≡ 0 → top ≤ 30 → All (λ id. OnStep low top step (level_of id)) (fast_covering low top step cells l)
  unfolding fast_covering
  fast_levels w t =
      let m = merged_covering low top step cells l in
      let R = denormalise_laws low step m M.normal.cells in
      at_all (λ id. OnStep low top step (level_of id)) (denormalise low step m) (λ y i.
      let k = R.each y i in
      let u = all_at (λ x. Under low top step (level_of x)) m M.under k.0 k.1 in
      subst (OnStep low top step) (sym k.3) (goal_on low top step (level_of k.0) u.to w t u.le u.on))
