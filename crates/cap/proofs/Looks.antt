-- One look at a cell: the corners decide as the two tests do. Assumes nothing.
use mathlib.Core.Path.{◌≡◌, refl, sym, ap, ◌∙◌}
use mathlib.Core.Bool.{Bool, true, false, not, cond, ◌&&◌, ◌||◌, or-true, and-false, and-eq-true_iff, true≢false, beq}
use Prim.Native.Nat.{ℕ, zero, suc, ◌+◌, ◌<◌}
use native.Mathlib.Omega.{arith}
use lib.Ieee.{le}
use borrow.Author.Tests.{not-true, not-false}
use Rattle.cellid.specs.CellId.{one}
use Rattle.cellid.proofs.Laws.{one_le}
use Rattle.point.specs.ChordAngle.{right}
use Rattle.point.specs.declared.Point.{Point}
use Rattle.cell.specs.Cell.{cell_of, vertex_at}
use Rattle.cell.specs.declared.Cell.{Cell}
use Rattle.cell.specs.declared.Cap.{Cap}
use Rattle.sight.specs.Sight.{sight_by, sight_of}
use Rattle.sight.specs.declared.Sight.{Sight}
use Rattle.cap.proofs.Laws.{at_corner_lem}
use Rattle.cap.specs.Cap.{cap_holds, touches, complement_of, meets_cell, holds_cell, cap_intersects, cap_contains}
use Rattle.cap.specs.Looks.{sight_in, other_side, can_reach, sight_past, held_of}

-- ---- what the corners decide

-- the look by four corners, where t tells whether the cap reaches into a cell of which it has no corner, u whether its other side does
abbrev by_corners : Bool → Bool → Bool → Bool → Bool → Bool → Sight
by_corners a b d e t u = sight_by (a || (b || (d || (e || t)))) (a && (b && (d && (e && not u))))

-- all four on one side
all_same : (a t u : Bool) → by_corners a a a a t u ≡ sight_past a (cond a u t)
unfolding sight_by
all_same true t true = refl
all_same true t false = refl
all_same false true u = refl
all_same false false u = refl

none_in : (a b d e : Bool) → one a + one b + one d + one e ≡ 0 → (a ≡ false) × (b ≡ false) × (d ≡ false) × (e ≡ false)
unfolding one
none_in true b d e h = absurd (omega arith)
none_in false true d e h = absurd (omega arith)
none_in false false true e h = absurd (omega arith)
none_in false false false true h = absurd (omega arith)
none_in false false false false h = (refl, refl, refl, refl)

all_in : (a b d e : Bool) → one a + one b + one d + one e ≡ 4 → (a ≡ true) × (b ≡ true) × (d ≡ true) × (e ≡ true)
unfolding one
all_in true true true true h = (refl, refl, refl, refl)
all_in false b d e h = absurd (omega (arith, one_le b, one_le d, one_le e))
all_in true false d e h = absurd (omega (arith, one_le d, one_le e))
all_in true true false e h = absurd (omega (arith, one_le e))
all_in true true true false h = absurd (omega arith)

module _ (cap : Cap) (c : Cell) where
  abbrev held_at_corner : ℕ → Bool
  held_at_corner k = cap_holds cap (vertex_at c k)

  -- a corner in the cap: the cell passes; one that isn't: it doesn't lie inside
  corner_in : (k : ℕ) → k < 4 → held_at_corner k ≡ true → meets_cell cap c ≡ true
  unfolding meets_cell
  corner_in zero l h = rw h
  corner_in (suc zero) l h = rw (h, or-true (held_at_corner 0))
  corner_in (suc (suc zero)) l h = rw (h, or-true (held_at_corner 1), or-true (held_at_corner 0))
  corner_in (suc (suc (suc zero))) l h = rw (h, or-true (held_at_corner 2), or-true (held_at_corner 1), or-true (held_at_corner 0))
  corner_in (suc (suc (suc (suc k)))) l h = absurd (omega arith)

  corner_out : (k : ℕ) → k < 4 → held_at_corner k ≡ false → holds_cell cap c ≡ false
  unfolding holds_cell
  corner_out zero l h = rw h
  corner_out (suc zero) l h = rw (h, and-false (held_at_corner 0))
  corner_out (suc (suc zero)) l h = rw (h, and-false (held_at_corner 1), and-false (held_at_corner 0))
  corner_out (suc (suc (suc zero))) l h = rw (h, and-false (held_at_corner 2), and-false (held_at_corner 1), and-false (held_at_corner 0))
  corner_out (suc (suc (suc (suc k)))) l h = absurd (omega arith)

  -- one in and one out
  mixed : (i o : ℕ) → i < 4 → o < 4 → held_at_corner i ≡ true → held_at_corner o ≡ false → sight_in cap true c ≡ Sight.Crossing
  unfolding sight_in sight_by
  mixed i o l m h g = rw (corner_in i l h, corner_out o m g)

  -- a corner that isn't where the first one is
  pub differing : (k : ℕ) (a b : Bool) → k < 4 → held_at_corner 0 ≡ a → held_at_corner k ≡ b → not (beq b a) ≡ true → Sight.Crossing ≡ sight_in cap true c
  differing k true true l e f h = absurd (true≢false (sym h))
  differing k true false l e f h = sym (mixed 0 k (omega arith) l e f)
  differing k false true l e f h = sym (mixed k 0 l (omega arith) f e)
  differing k false false l e f h = absurd (true≢false (sym h))

  -- all four on one side
  pub edges_decide : (a : Bool) → held_at_corner 0 ≡ a → held_at_corner 1 ≡ a → held_at_corner 2 ≡ a → held_at_corner 3 ≡ a → sight_in cap true c ≡ sight_past a (touches (other_side cap a) c)
  unfolding sight_in meets_cell holds_cell
  edges_decide a e f g h = rw (e, f, g, h) (all_same a (touches cap c) (touches (complement_of cap) c) ∙ ap (sight_past a) (side a))
    where
      side : (b : Bool) → cond b (touches (complement_of cap) c) (touches cap c) ≡ touches (other_side cap b) c
      side true = refl
      side false = refl

  -- of the corners so many lie in the cap
  pub none_held : held_of cap c ≡ 0 → sight_in cap true c ≡ sight_past false (touches cap c)
  unfolding held_of
  none_held h = let n = none_in (held_at_corner 0) (held_at_corner 1) (held_at_corner 2) (held_at_corner 3) h in edges_decide false n.0 n.1 n.2 n.3

  pub all_held : held_of cap c ≡ 4 → sight_in cap true c ≡ sight_past true (touches (complement_of cap) c)
  unfolding held_of
  all_held h = let n = all_in (held_at_corner 0) (held_at_corner 1) (held_at_corner 2) (held_at_corner 3) h in edges_decide true n.0 n.1 n.2 n.3

  some_in : (a b d e : Bool) → held_at_corner 0 ≡ a → held_at_corner 1 ≡ b → held_at_corner 2 ≡ d → held_at_corner 3 ≡ e → (one a + one b + one d + one e ≡ 0 → ⊥) → (one a + one b + one d + one e ≡ 4 → ⊥) → sight_in cap true c ≡ Sight.Crossing
  unfolding one
  some_in true true true true p q r s h g = absurd (g refl)
  some_in true true true false p q r s h g = mixed 0 3 (omega arith) (omega arith) p s
  some_in true true false e p q r s h g = mixed 0 2 (omega arith) (omega arith) p r
  some_in true false d e p q r s h g = mixed 0 1 (omega arith) (omega arith) p q
  some_in false true d e p q r s h g = mixed 1 0 (omega arith) (omega arith) q p
  some_in false false true e p q r s h g = mixed 2 0 (omega arith) (omega arith) r p
  some_in false false false true p q r s h g = mixed 3 0 (omega arith) (omega arith) s p
  some_in false false false false p q r s h g = absurd (h refl)

  pub some_held : (held_of cap c ≡ 0 → ⊥) → (held_of cap c ≡ 4 → ⊥) → sight_in cap true c ≡ Sight.Crossing
  unfolding held_of
  some_held h g = some_in (held_at_corner 0) (held_at_corner 1) (held_at_corner 2) (held_at_corner 3) refl refl refl refl h g

  -- so where only outside or not is asked a corner in the cap is enough; where that isn't so, a cell that lies inside is told as such, or none does
  pub enough : (k : ℕ) → k < 4 → held_at_corner k ≡ true → sight_in cap false c ≡ Sight.Crossing
  unfolding sight_in sight_by
  enough k l h = rw (corner_in k l h)

  pub not_enough : (k : ℕ) (whole : Bool) → k < 4 → (not whole && held_at_corner k) ≡ false → sight_in cap true c ≡ sight_in cap whole c
  unfolding sight_in
  not_enough k true l h = refl
  not_enough k false l h = rw (corner_out k l h)

pub asked_less : (held whole : Bool) → (not whole && held) ≡ true → (held ≡ true) × (whole ≡ false)
asked_less held whole h = let r = (and-eq-true_iff (not whole) held).0 h in (r.1, not-true whole r.0)

-- the first corner of an id's cell
module _ (cap : Cap) (id : ℕ) (c : Cell) (a : Point) (all whole : Bool) (e : c ≡ cell_of id) (f : a ≡ vertex_at c 0) (g : all ≡ cap_holds cap a) where
  pub first_enough : (not whole && all) ≡ true → Sight.Crossing ≡ sight_of (cap_intersects cap) (cap_contains cap) whole id
  unfolding sight_of cap_intersects cap_contains sight_in
  first_enough h = let r = asked_less all whole h in rw (r.1, ← e) (sym (enough cap c 0 (omega arith) (at_corner_lem cap c 0 a all f g ∙ r.0)))

  pub first_not : (not whole && all) ≡ false → sight_in cap true c ≡ sight_of (cap_intersects cap) (cap_contains cap) whole id
  unfolding sight_of cap_intersects cap_contains sight_in
  first_not h = rw (← e) (not_enough cap c 0 whole (omega arith) (rw (at_corner_lem cap c 0 a all f g) h))

pub touches_not : (cap : Cap) (c : Cell) → can_reach cap ≡ false → touches cap c ≡ false
unfolding touches
touches_not cap c h = rw (not-false (le right cap.radius) h)
