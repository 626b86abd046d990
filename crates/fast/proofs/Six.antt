-- Merging from min 0 on down to four cells leaves at most six of any list: it ends before only where no two neighbours share a face.
use mathlib.Core.Path.{◌≡◌, refl}
use mathlib.Core.Logic.{⊎_elim, by_cases}
use mathlib.Core.List.{List, map}
use Prim.Native.Nat.{ℕ, zero, suc, ◌-◌, ◌≤◌, ◌<◌, min}
use native.Mathlib.Decide.{dec_lt, ℕ_discrete}
use native.Mathlib.Omega.{arith}
use Rattle.std.specs.Prelude.{Option, Some, None}
use lib.ListN.{length, get_or}
use Rattle.cellid.specs.CellId.{Cell, face_of, first_leaf, last_leaf, common_level}
use Rattle.cellid.proofs.Ancestors.{common_nothing}
use Rattle.order.specs.Order.{All}
use Rattle.order.proofs.OrderLaws.{all_get}
use Rattle.cellunion.specs.CellUnion.{Apart, normalise}
use Rattle.cellunion.proofs.Lists.{apart_get}
use Rattle.cellunion.proofs.Spans.{span}
use Rattle.cellunion.proofs.Counts.{hi_le}
use Rattle.cellunion.proofs.Norm.{normalise_normal}
use Rattle.fast.specs.Fast.{lifted, depth_of, pair_depth, best_of, merged_covering}
use Rattle.fast.proofs.Merging.{best_better, best_same, merged_ends}
use Rattle.fast.proofs.Laws.{lifted_cells, merged_covering_lem}

-- no pair that was looked at lies deeper than the best
best_most : (low step : ℕ) (l : List ℕ) (k i : ℕ) → i < k → pair_depth low step (get_or l i 0) (get_or l (suc i) 0) ≤ (best_of low step l k).depth
best_most low step l zero i h = absurd (omega arith)
best_most low step l (suc k) i h = by_cases (dec_lt (best_of low step l k).depth (pair_depth low step (get_or l k 0) (get_or l (suc k) 0)))
    (λ t. rw (best_better low step l k t) (by_cases (ℕ_discrete i k) (λ e. rw e (omega arith)) (λ e. omega (arith, best_most low step l k i (omega arith)))))
    (λ t. rw (best_same low step l k (omega arith)) (by_cases (ℕ_discrete i k) (λ e. rw e (omega arith)) (λ e. best_most low step l k i (omega arith))))

-- a pair of no depth shares no face
depth_zero : (low step : ℕ) (x : Option ℕ) → depth_of low step x ≤ 0 → x ≡ None
unfolding depth_of
depth_zero low step None h = refl
depth_zero low step (Some K) h = absurd (omega arith)

no_face : (low step a b : ℕ) → pair_depth low step a b ≤ 0 → face_of a ≡ face_of b → ⊥
unfolding pair_depth
no_face low step a b h = (common_nothing a b).0 (depth_zero low step (common_level a b) h)

-- ---- faces climb along a list

face_up : (x y : ℕ) → Cell x → Cell y → last_leaf x < first_leaf y → (face_of x ≡ face_of y → ⊥) → face_of x < face_of y
face_up x y X Y h d = let u = span X in let v = span Y in by_cases (ℕ_discrete (face_of x) (face_of y)) (λ e. absurd (d e)) (λ e. omega arith)

climb : (l : List ℕ) → All Cell l → Apart l → ((i : ℕ) → suc i < length l → face_of (get_or l i 0) ≡ face_of (get_or l (suc i) 0) → ⊥) → (i : ℕ) → i < length l → i ≤ face_of (get_or l i 0)
climb l C A d zero h = omega arith
climb l C A d (suc i) h =
    let g = climb l C A d i (omega arith) in
    let f = face_up (get_or l i 0) (get_or l (suc i) 0) (all_get Cell l 0 i (omega arith) C) (all_get Cell l 0 (suc i) h C) (apart_get l i (suc i) A (omega arith) h) (d i h) in
    omega arith

face_small : (x : ℕ) → Cell x → face_of x ≤ 5
face_small x X = let u = span X in omega (arith, hi_le X)

six_faces_lem : (l : List ℕ) → All Cell l → Apart l → ((i : ℕ) → suc i < length l → face_of (get_or l i 0) ≡ face_of (get_or l (suc i) 0) → ⊥) → length l ≤ 6
six_faces_lem l C A d = by_cases (dec_lt 6 (length l))
    (λ h. absurd (omega (arith, climb l C A d 6 h, face_small (get_or l 6 0) (all_get Cell l 0 6 h C))))
    (λ h. omega arith)

-- ---- what merging leaves

pub merged_six : (top cells : ℕ) (l : List ℕ) → All Cell l → length (merged_covering 0 top 1 (min cells 4) l) ≤ 6
unfolding merged_covering
merged_six top cells l C =
    let f = map (lifted 0 top 1) l in
    let r = merged_covering 0 top 1 (min cells 4) l in
    let N = (merged_covering_lem 0 top 1 (min cells 4) l (omega arith) C).normal in
    ⊎_elim
    (λ (h : length r ≤ min cells 4). omega arith)
    (λ (h : (best_of 0 1 r (length r - 1)).depth ≤ 0). six_faces_lem r N.cells N.apart (λ i g. no_face 0 1 (get_or r i 0) (get_or r (suc i) 0) (omega (arith, best_most 0 1 r (length r - 1) i (omega arith)))))
    (merged_ends 0 1 (min cells 4) (length (normalise f)) (normalise f) (normalise_normal f (lifted_cells 0 top 1 l C)).cells (omega arith))
