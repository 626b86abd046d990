-- `cap::edges_say` meets its contract. The invariant: the edges from the k-th on decide as all four do.
use Rattle.cap.specs.Cap.{edges_say}
use mathlib.Core.Path.{◌≡◌}
use Prim.Native.Nat.{◌-◌}
use Rattle.cap.proofs.edges_say.Given as goal

abbrev pub invariant-loop-k : goal.invariant-loop-k
invariant-loop-k l = edges_say l.center l.sin2 l.c 4 ≡ edges_say l.center l.sin2 l.c (4 - l.k)
