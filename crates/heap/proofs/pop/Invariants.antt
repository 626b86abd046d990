-- The invariant of `heap::pop`: the rest of the defined move ends in what the contract says.
use mathlib.Core.Path.{◌≡◌}
use mathlib.Core.List.{List}
use Prim.Native.Nat.{ℕ, ◌-◌, ◌<◌}
use lib.ListN.{length}
use Rattle.order.proofs.HeapRun.{Down}
use Rattle.records.specs.declared.Rec.{Rec}
use Rattle.records.specs.Records.{get_r, put_r, cap_r, before}
use Rattle.heap.specs.Heap.{pop_r}
use Rattle.heap.proofs.pop.Given as goal

pub record Inv (m₀ : List ℕ) (n : ℕ) (a : Rec) (m : List ℕ) (i : ℕ) : Type 0 where
  pub room : n < cap_r m₀
  pub within : i < cap_r m₀
  pub len : length m ≡ length m₀
  pub run : Down get_r put_r before (pop_r m₀ n) n a m i

abbrev pub invariant-loop-i : goal.invariant-loop-i
invariant-loop-i l = Inv l.initial.m l.n l.a l.m l.i

abbrev pub decreases-loop-i : goal.decreases-loop-i
decreases-loop-i l = l.n - l.i
