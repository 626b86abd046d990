use Prim.Native.Nat.{◌-◌}
use lib.ListN.{length}
use Rattle.denorm.proofs.Writes.{Spreading}
use Rattle.denorm.proofs.spread.Given as goal

abbrev pub invariant-loop-place : goal.invariant-loop-place
invariant-loop-place l = Spreading l.id l.to l.initial.part 0 l.bit l.part l.c (length l.part - l.place-index) l.place-index
