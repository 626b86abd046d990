-- `ranges::join`: one cell after another.
use Rattle.ranges.proofs.Writes.{Joining}
use Rattle.ranges.proofs.join.Given as goal

abbrev pub invariant-loop-id : goal.invariant-loop-id
invariant-loop-id l = Joining l.ids l.initial.out l.out l.first l.last l.at l.id-index
