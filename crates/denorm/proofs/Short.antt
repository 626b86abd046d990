-- The final list is no longer than the raw list: each of its cells has a raw cell of its own inside it.
use mathlib.Core.Path.{◌≡◌, sym, ap, ◌∙◌, subst}
use mathlib.Core.List.{List}
use Prim.Native.Nat.{ℕ, ◌+◌, ◌-◌, ◌%◌, ◌≤◌, ◌<◌, min, max}
use native.Mathlib.Omega.{arith}
use lib.ListN.{length}
use Rattle.cellid.specs.CellId.{Cell, IsCell, level_of}
use Rattle.cellid.proofs.Laws.{level_cell}
use Rattle.order.specs.Order.{All}
use Rattle.cellunion.specs.CellUnion.{lo, hi, Member, normalise}
use Rattle.cellunion.proofs.Spans.{span, In, Nest, left, right, inside, around, nest, in_level, in_same}
use Rattle.cellunion.proofs.Unique.{all_at, covers→, covers←, same_held, apart_one}
use Rattle.cellunion.proofs.Norm.{normalise_normal, normalise_leaves}
use Rattle.cellunion.proofs.Short.{held_short}
use Rattle.denorm.specs.Denorm.{goal, denormalise, OnStep}
use Rattle.denorm.proofs.Laws.{rest_small, denormalise_laws, final_apart}

-- ---- the goal of a level is at most every level on step from it on

goal_le_core : (low d g m ρ r : ℕ) → m ≡ low + d → ρ ≤ g - d → d ≤ g → r ≡ low + g → min 30 (m + ρ) ≤ r
goal_le_core low d g m ρ r e h f q = omega arith

pub goal_le : (low top step L r : ℕ) → 30 % step ≡ 0 → top ≤ 30 → L ≤ r → OnStep low top step r → goal low step L ≤ r
unfolding goal
goal_le low top step L r w t h R =
    let f : max L low - low ≤ r - low = omega (arith, R.from) in
    goal_le_core low (max L low - low) (r - low) (max L low) ((30 - (max L low - low)) % step) r (omega arith)
    (rest_small step (max L low - low) (r - low) w (omega (arith, R.to)) f R.on) f (omega (arith, R.from))

-- ---- two cells that share a leaf: the deeper lies in the other

in_case : {r y : ℕ} (n : ℕ) (R : Cell r) (Y : Cell y) → lo r ≤ n → n < hi r → lo y ≤ n → n < hi y → Y.0 ≤ R.0 → Nest r y → In r y
in_case n R Y a b c d h (left x) = absurd (omega arith)
in_case n R Y a b c d h (right x) = absurd (omega arith)
in_case n R Y a b c d h (inside x) = x
in_case {r} {y} n R Y a b c d h (around x) =
    let g : R.0 ≤ Y.0 = in_level Y.0 R.0 Y.1 R.1 Y.2 R.2 x in
    let e : R.0 ≡ Y.0 = omega arith in
    let f : y ≡ r = in_same Y.0 Y.1 R.1 Y.2 (subst (λ (L : ℕ). IsCell r L R.1) e R.2) x in
    (omega (arith, ap lo f), omega (arith, ap hi f))

-- each cell of the final list has a raw cell inside it
pub final_has : (low top step : ℕ) (raw : List ℕ) → 30 % step ≡ 0 → top ≤ 30 → All Cell raw → All (λ id. OnStep low top step (level_of id)) raw
    → (y : ℕ) → Member y (denormalise low step (normalise raw)) → (r : ℕ) × Member r raw × Cell r × In r y
final_has low top step raw w t C O y m =
    let N = normalise_normal raw C in
    let same = normalise_leaves raw C in
    let R = denormalise_laws low step (normalise raw) N.cells in
    let k = R.each y m in
    let d = k.0 in
    let Y = all_at Cell (denormalise low step (normalise raw)) R.cells y m in
    let D = all_at Cell (normalise raw) N.cells d k.1 in
    let sy = span Y in
    let q = covers→ raw (lo y) C (sym (same (lo y)) ∙ covers← (normalise raw) (lo y) N.cells (d, k.1, k.2.0, omega (arith, k.2.1))) in
    let Q = all_at Cell raw C q.0 q.1 in
    let x = same_held (normalise raw) raw N C same q.0 q.1 in
    let e : x.0 ≡ d = apart_one (normalise raw) N.cells N.apart x.0 d (lo y) x.1 k.1 (omega (arith, x.2.0, q.2)) (omega (arith, x.2.1, q.3)) k.2.0 (omega (arith, k.2.1)) in
    let lq : level_of q.0 ≡ Q.0 = level_cell q.0 Q.0 Q.1 Q.2 in
    let ly : level_of y ≡ Y.0 = level_cell y Y.0 Y.1 Y.2 in
    let ld : level_of d ≡ D.0 = level_cell d D.0 D.1 D.2 in
    let h : D.0 ≤ Q.0 = in_level Q.0 D.0 Q.1 D.1 Q.2 D.2 (omega (arith, x.2.0, ap lo e), omega (arith, x.2.1, ap hi e)) in
    let g : goal low step (level_of d) ≤ level_of q.0 = goal_le low top step (level_of d) (level_of q.0) w t (omega arith) (all_at (λ id. OnStep low top step (level_of id)) raw O q.0 q.1) in
    (q.0, q.1, Q, in_case (lo y) Q Y q.2 q.3 (omega arith) (omega arith) (omega (arith, k.3)) (nest Q Y))

-- THE LENGTH
pub final_short : (low top step : ℕ) (raw : List ℕ) → 30 % step ≡ 0 → top ≤ 30 → All Cell raw → All (λ id. OnStep low top step (level_of id)) raw
    → length (denormalise low step (normalise raw)) ≤ length raw
final_short low top step raw w t C O =
    let R = denormalise_laws low step (normalise raw) (normalise_normal raw C).cells in
    held_short (denormalise low step (normalise raw)) raw R.cells (final_apart low step raw C) (final_has low top step raw w t C O)
