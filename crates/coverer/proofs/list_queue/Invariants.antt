-- `coverer::list_queue` meets its contract. The invariant: what is left of the queue, listed over the output as it is now, makes the output that is wanted.
use Rattle.coverer.proofs.Watching.{Listing}
use Rattle.coverer.proofs.list_queue.Given as goal

abbrev pub invariant-loop-left : goal.invariant-loop-left
invariant-loop-left l = Listing l.e l.n l.at l.initial.m l.initial.out l.m l.out l.left l.i

abbrev pub decreases-loop-left : goal.decreases-loop-left
decreases-loop-left l = l.left
