-- `root::half_root` meets its contract. The invariant: m is below the square of r + 1, and r is at most 2 ^ 28. Assumes nothing.
use Rattle.std.proofs.Common.{◌+◌, ◌*◌, ◌^◌, ◌<◌, ◌≤◌}
use Rattle.root.proofs.half_root.Given as goal

abbrev pub invariant-loop-r : goal.invariant-loop-r
invariant-loop-r l = (l.m < (l.r + 1) * (l.r + 1)) × (l.r ≤ 2 ^ 28)

abbrev pub decreases-loop-r : goal.decreases-loop-r
decreases-loop-r l = l.r
