-- `night::run`: the unread bytes lie in the buffer, and no more orders are taken than a night may have.
use Prim.Native.Nat.{◌≤◌}
use lib.ListN.{length}
use Rattle.input.specs.Feed.{Within}
use Rattle.night.proofs.run.Given as goal

abbrev pub invariant-loop-before : goal.invariant-loop-before
invariant-loop-before l = Within (length l.initial.buf) l.unread × (l.n ≤ 256)
