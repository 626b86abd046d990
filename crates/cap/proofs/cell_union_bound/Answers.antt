-- `cap::cell_union_bound` meets its contract.
use Rattle.cap.specs.Bound.{bound_at, union_bound}
use Rattle.cellid.specs.CellId.{face_cell, six_faces}
use mathlib.Core.Path.{◌≡◌, sym, ◌∙◌}
use Prim.Native.Nat.{suc, ◌-◌, ◌≤◌}
use native.Mathlib.Omega.{arith}
use Rattle.cap.proofs.BoundLaws.{level_at_most, four_six}
use Rattle.cap.proofs.cell_union_bound.Goals as goal

pub returns-then-level-eq0 : goal.returns-then-level-eq0
unfolding union_bound bound_at six_faces face_cell
returns-then-level-eq0 c = rw (sym c.level_for-level.ensures ∙ c.if-level-eq0.true)

pub vertex_neighbors-n-requires : goal.vertex_neighbors-n-requires
vertex_neighbors-n-requires c =
    let leaf = c.cellid_from_point-leaf.ensures.leaf in
    let most : c.level_for-level.result ≤ 30 = level_at_most _ _ c.level_for-level.ensures in
    record {
      cell = (30, leaf.0, leaf.1);
      level_bound = omega arith;
    }

pub returns : goal.returns
unfolding union_bound bound_at
returns c =
    let level = c.level_for-level.result in
    let up : level ≡ suc (level - 1) = omega arith in
    rw (sym c.level_for-level.ensures ∙ up, ← c.cellid_from_point-leaf.ensures.value) (four_six _ c.cellid_from_point-leaf.result (level - 1) c.vertex_neighbors-n.ensures)
