-- The leaves beneath a cell are the leaves of its face that lie in its square, and no others.
use mathlib.Core.Path.{◌≡◌, sym, ap, ap₂, ◌∙◌}
use mathlib.Core.Bool.{true}
use mathlib.Core.Logic.{◌↔◌}
use Prim.Native.Nat.{ℕ, zero, suc, ◌+◌, ◌-◌, ◌*◌, ◌/◌, ◌%◌, ◌^◌, ◌≤◌, ◌<◌}
use native.Mathlib.Nat.{mul_comm, div-div-eq-div-mul}
use native.Mathlib.Omega.{arith}
use lib.Pow.{pow-add}
use Rattle.cellid.specs.CellId.{IsCell, bit_at, place_at, face_of, has_leaf}
use Rattle.cellid.proofs.Parts.{upper, upper_step, upper_place, face_same}
use Rattle.cellid.proofs.Leaves.{has_leaf→, has_leaf←}
use Rattle.hilbert.specs.Curve.{ij_at, pos_of, pos_at, turn_of, walk, face_ij}
use Rattle.hilbert.proofs.Laws.{ij_lt, walk_in}
use Rattle.hilbert.proofs.Inverse.{pos_ij}
use Rattle.hilbert.proofs.Depth.{pos_upper, walk_same, walk_square}

-- a leaf's bits down to a level's pair
upper_leaf : (n L : ℕ) → upper (2 * n + 1) L ≡ n / bit_at L
upper_leaf n L =
    let half : (2 * n + 1) / 2 ≡ n = omega arith in
    rw (pow-add 2 (place_at L) 1, mul_comm (bit_at L) 2, ← div-div-eq-div-mul (2 * n + 1) 2 (bit_at L), half)

-- one quarter of a row stands at one position
one_pos : (r s p q : ℕ) → r ≡ s → r < 4 → s < 4 → p < 4 → q < 4 → ij_at r p / 2 ≡ ij_at s q / 2 → ij_at r p % 2 ≡ ij_at s q % 2 → p ≡ q
one_pos r s p q e h k g f x y =
    sym (pos_ij r p h g) ∙ ap₂ pos_of e (let z : ij_at r p ≡ ij_at s q = omega arith in z) ∙ pos_ij s q k f

-- one place in n levels of one face: the same bits down to there
same_upper : (a b n : ℕ) → n ≤ 30 → face_of a ≡ face_of b → (walk a n).i ≡ (walk b n).i → (walk a n).j ≡ (walk b n).j → upper a n ≡ upper b n
unfolding walk turn_of
same_upper a b zero h f x y = f
same_upper a b (suc n) h f x y =
    let p : pos_at a (29 - n) < 4 = omega arith in
    let q : pos_at b (29 - n) < 4 = omega arith in
    let s = ij_lt (walk a n).row (pos_at a (29 - n)) (walk_in a n).row p in
    let t = ij_lt (walk b n).row (pos_at b (29 - n)) (walk_in b n).row q in
    let u = same_upper a b n (omega arith) f (omega arith) (omega arith) in
    let w : (walk a n).row ≡ (walk b n).row = ap (λ v. v.row) (walk_same a b n (omega arith) u) in
    let e = one_pos (walk a n).row (walk b n).row (pos_at a (29 - n)) (pos_at b (29 - n)) w (walk_in a n).row (walk_in b n).row p q (omega arith) (omega arith) in
    omega (arith, upper_step a n (omega arith), upper_step b n (omega arith), pos_upper a n (omega arith), pos_upper b n (omega arith))

-- the leaf number n lies beneath a cell exactly where it has the cell's face, and its i and j, cut to the cell's level, are those of the cell
pub leaves_in_square : {id L p : ℕ} (n : ℕ) → IsCell id L p
    → (has_leaf id n ≡ true)
    ↔ (((face_ij (2 * n + 1)).face ≡ (face_ij id).face)
    × ((face_ij (2 * n + 1)).i / 2 ^ (30 - L) ≡ (face_ij id).i / 2 ^ (30 - L)) × ((face_ij (2 * n + 1)).j / 2 ^ (30 - L) ≡ (face_ij id).j / 2 ^ (30 - L)))
unfolding face_ij
leaves_in_square {id} {L} {p} n c =
    let r = walk_square (2 * n + 1) L c.level in
    let s = walk_square id L c.level in (
      λ t. let u : upper (2 * n + 1) L ≡ upper id L = upper_leaf n L ∙ has_leaf→ n c t ∙ sym (upper_place id L p c) in
          let w = walk_same (2 * n + 1) id L c.level u in
          (face_same (2 * n + 1) id L c.level u, r.0 ∙ ap (λ v. v.i) w ∙ sym s.0, r.1 ∙ ap (λ v. v.j) w ∙ sym s.1),
      λ (f, x, y). let u = same_upper (2 * n + 1) id L c.level f (sym r.0 ∙ x ∙ s.0) (sym r.1 ∙ y ∙ s.1) in
          has_leaf← n c (sym (upper_leaf n L) ∙ u ∙ upper_place id L p c),
    )
