-- The invariant of `heap::push`: the rest of the defined move ends in what the contract says.
use mathlib.Core.Path.{◌≡◌}
use mathlib.Core.List.{List}
use Prim.Native.Nat.{ℕ, ◌≤◌}
use lib.ListN.{length}
use Rattle.order.proofs.HeapRun.{Up}
use Rattle.records.specs.declared.Rec.{Rec}
use Rattle.records.specs.Records.{get_r, put_r, before}
use Rattle.heap.specs.Heap.{push_r}
use Rattle.heap.proofs.push.Given as goal

pub record Inv (m₀ : List ℕ) (n : ℕ) (r : Rec) (m : List ℕ) (i : ℕ) : Type 0 where
  pub within : i ≤ n
  pub len : length m ≡ length m₀
  pub run : Up get_r put_r before (push_r m₀ n r) r m i

abbrev pub invariant-loop-i : goal.invariant-loop-i
invariant-loop-i l = Inv l.initial.m l.n l.r l.m l.i

abbrev pub decreases-loop-i : goal.decreases-loop-i
decreases-loop-i l = l.i
