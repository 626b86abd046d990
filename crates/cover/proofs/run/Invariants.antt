-- `cover::run`: the unread bytes lie in the buffer, the answers that wait in the page, and no more lines are answered than read.
use Prim.Native.Nat.{◌≤◌}
use lib.ListN.{length}
use Rattle.input.specs.Feed.{Within}
use Rattle.cover.proofs.run.Given as goal

abbrev pub invariant-loop-before : goal.invariant-loop-before
invariant-loop-before l = Within (length l.initial.buf) l.unread × (l.answered ≤ l.before) × (l.waiting ≤ length l.initial.page)
