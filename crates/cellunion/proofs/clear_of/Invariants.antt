use mathlib.Core.Path.{◌≡◌}
use Prim.Native.Nat.{◌≤◌}
use Rattle.cellunion.specs.CellUnion.{clear_of}
use Rattle.cellunion.specs.Stack.{top_first}
use Rattle.cellunion.proofs.clear_of.Given as goal

abbrev pub invariant-loop-left : goal.invariant-loop-left
invariant-loop-left l = (l.left ≤ l.k) × (clear_of l.c (top_first l.left l.mem) ≡ clear_of l.c (top_first l.k l.mem))

abbrev pub decreases-loop-left : goal.decreases-loop-left
decreases-loop-left l = l.left
