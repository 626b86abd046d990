-- `probe::run`: the unread bytes lie in the buffer, and no more lines were answered than read.
use Prim.Native.Nat.{◌≤◌}
use lib.ListN.{length}
use Rattle.input.specs.Feed.{Within}
use Rattle.probe.proofs.run.Given as goal

abbrev pub invariant-loop-before : goal.invariant-loop-before
invariant-loop-before l = Within (length l.initial.buf) l.unread × (l.answered ≤ l.before)
