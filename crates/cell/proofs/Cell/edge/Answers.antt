-- `cell::Cell::edge` meets its contract: the normal of a line, or its opposite, is brought to unit length by the line's scale.
use denote.Floats.{passes}
use native.Mathlib.Omega.{arith}
use Rattle.std.proofs.Common.{◌≡◌, refl, rules}
use Rattle.cell.specs.Cell.{edge_at}
use Rattle.cell.specs.Siblings.{cell_scales, scale_of}
use Rattle.cell.specs.declared.Rect.{Rect}
use Rattle.cell.specs.declared.Cell.{Cell}
use Rattle.cell.proofs.Lengths.{u_sized, v_sized, edge_scaled, back_scaled}
use Rattle.cell.proofs.Cell.edge.Goals.{In_default}
use Rattle.cell.proofs.Cell.edge.Goals as goal

-- the scales, one by one
record Known (c : Cell) (m : Rect) : Type 0 where
  low_u : m.x.lo ≡ scale_of c.uv.x.lo
  high_u : m.x.hi ≡ scale_of c.uv.x.hi
  low_v : m.y.lo ≡ scale_of c.uv.y.lo
  high_v : m.y.hi ≡ scale_of c.uv.y.hi

known : (c : Cell) (m : Rect) → m ≡ cell_scales c → Known c m
unfolding cell_scales
known c m e = rw e (record { low_u = refl; high_u = refl; low_v = refl; high_v = refl })

pub returns-in-0 : goal.returns-in-0
unfolding edge_at
returns-in-0 c = rw c.in-0.is (edge_scaled _ _ _ _ _ (v_sized _ _ (passes _ (search rules))) (known _ _ c.requires.2).low_v c.vnorm.ensures c.mul.ensures)

pub returns-in-1 : goal.returns-in-1
unfolding edge_at
returns-in-1 c = rw c.in-1.is (edge_scaled _ _ _ _ _ (u_sized _ _ (passes _ (search rules))) (known _ _ c.requires.2).high_u c.unorm.ensures c.mul-in-1.ensures)

pub returns-in-2 : goal.returns-in-2
unfolding edge_at
returns-in-2 c = rw c.in-2.is (back_scaled _ _ _ _ _ _ (v_sized _ _ (passes _ (search rules))) (known _ _ c.requires.2).high_v c.vnorm-in-2.ensures c.mul-in-2.ensures c.mul-in-2-2.ensures)

last : (c : In_default) → c.args.k ≡ 3
last c = grind (arith)

pub returns-in_default : goal.returns-in_default
unfolding edge_at
returns-in_default c = rw (last (goal.at.returns-in_default c).In_default) (back_scaled _ _ _ _ _ _ (u_sized _ _ (passes _ (search rules))) (known _ _ c.requires.2).low_u c.unorm-in_default.ensures c.mul-in_default.ensures c.mul-in_default-2.ensures)
