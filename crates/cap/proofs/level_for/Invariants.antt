-- `cap::level_for` meets its contract. The invariant: the thresholds passed, and the level in the rest of the table.
use Rattle.cap.specs.Bound.{thresholds, level_in, level_for}
use mathlib.Core.Path.{◌≡◌}
use Prim.Native.Nat.{◌+◌}
use lib.ListN.{drop}
use Rattle.cap.proofs.level_for.Given as goal

abbrev pub invariant-loop-level : goal.invariant-loop-level
invariant-loop-level l = level_for l.radius ≡ l.level + level_in (drop l.level thresholds) l.radius
