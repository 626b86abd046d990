-- What the tests of caps promise.
use mathlib.Core.Path.{◌≡◌, refl, sym, ap, ◌∙◌}
use mathlib.Core.Bool.{Bool, true, false, cond, and-eq-true_iff}
use Prim.Native.Nat.{ℕ, zero, suc, ◌+◌, ◌-◌, ◌%◌, ◌<◌}
use native.Mathlib.Omega.{arith}
use lib.ListN.{get_or}
use mathlib.Core.List.{List}
use lib.Ieee.{Float, le, of_bits, binary64}
use Rattle.cellid.specs.CellId as CellId
use Rattle.cell.proofs.Laws.{cell_face}
use Rattle.point.specs.declared.Point.{Point}
use Rattle.point.specs.ChordAngle.{chord_angle}
use Rattle.cell.specs.Cell.{vertex_at, edge_at, vertex_of, vertices_of, cell_of}
use Rattle.cell.specs.declared.Cell.{Cell}
use Rattle.cell.specs.declared.Cap.{Cap}
use Rattle.std.specs.Prelude.{Option}
use Rattle.cap.specs.Cap.{is_empty_cap, cap_holds, edge_says, edges_say, decide, touches, meets_cell, holds_cell, cap_intersects, cap_contains}
use Rattle.point.proofs.Signs.{not_within, chord_plus}

-- the k-th of the four corners
pub corner_at_lem : (c : Cell) (k : ℕ) (d : Point) → k < 4 → get_or (vertices_of c) k d ≡ vertex_at c k
unfolding vertices_of
corner_at_lem c zero d h = refl
corner_at_lem c (suc zero) d h = refl
corner_at_lem c (suc (suc zero)) d h = refl
corner_at_lem c (suc (suc (suc zero))) d h = refl
corner_at_lem c (suc (suc (suc (suc k)))) d h = absurd (omega arith)

-- what a test of a corner says, where the corner was computed on the way
pub at_corner_lem : (cap : Cap) (c : Cell) (k : ℕ) (p : Point) (b : Bool) → p ≡ vertex_at c k → b ≡ cap_holds cap p → cap_holds cap (vertex_at c k) ≡ b
at_corner_lem cap c k p b e f = sym (f ∙ ap (cap_holds cap) e)

pub face_of_lem : (id : ℕ) (c : Cell) → CellId.Cell id → c ≡ cell_of id → c.face < 6
face_of_lem id c h e = rw e (cell_face id h)

-- one edge more of the four
pub edge_step : (center : Point) (sin2 : Float) (c : Cell) (edge : Point) (vs : List Point) (d : Point) (k : ℕ) (v : Option Bool) → k < 4 → vs ≡ vertices_of c → edge ≡ edge_at c k
    → v ≡ edge_says center sin2 edge (get_or vs k d) (get_or vs ((k + 1) % 4) d) → edges_say center sin2 c (4 - k) ≡ decide v (edges_say center sin2 c (4 - (k + 1)))
unfolding edges_say
edge_step center sin2 c edge vs d k v h e f g =
    let left : 4 - k ≡ suc (4 - (k + 1)) = omega arith in
    let this : 3 - (4 - (k + 1)) ≡ k = omega arith in
    let next : (k + 1) % 4 < 4 = omega arith in
    rw (left, edges_say, this, g, f, e, corner_at_lem c k d h, corner_at_lem c ((k + 1) % 4) d next)

-- containing implies intersecting: the first corner lies in the cap
pub contains_intersects : (cap : Cap) (id : ℕ) → cap_contains cap id ≡ true → cap_intersects cap id ≡ true
unfolding cap_contains cap_intersects holds_cell meets_cell
contains_intersects cap id h = let first : cap_holds cap (vertex_of id 0) ≡ true = ((and-eq-true_iff _ _).0 h).0 in rw first

-- an empty cap has no point in it, intersects nothing and contains nothing
pub empty_holds_none : (cap : Cap) (p : Point) → is_empty_cap cap ≡ true → cap_holds cap p ≡ false
unfolding is_empty_cap cap_holds
empty_holds_none cap p h = not_within (chord_angle cap.center p) cap.radius (chord_plus cap.center p) h

empty_touches_none : (cap : Cap) (c : Cell) → is_empty_cap cap ≡ true → touches cap c ≡ false
unfolding touches
empty_touches_none cap c h = rw h (either (le (of_bits binary64 0x4000_0000_0000_0000) cap.radius))
  where
    either : (b : Bool) → cond b false false ≡ false
    either true = refl
    either false = refl

pub empty_intersects_none : (cap : Cap) (id : ℕ) → is_empty_cap cap ≡ true → cap_intersects cap id ≡ false
unfolding cap_intersects meets_cell
empty_intersects_none cap id h =
    rw (
      empty_holds_none cap (vertex_of id 0) h,
      empty_holds_none cap (vertex_of id 1) h,
      empty_holds_none cap (vertex_of id 2) h,
      empty_holds_none cap (vertex_of id 3) h,
      empty_touches_none cap (cell_of id) h,
    )

pub empty_contains_none : (cap : Cap) (id : ℕ) → is_empty_cap cap ≡ true → cap_contains cap id ≡ false
unfolding cap_contains holds_cell
empty_contains_none cap id h = rw (empty_holds_none cap (vertex_of id 0) h)
