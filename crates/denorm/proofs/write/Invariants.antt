use Rattle.denorm.proofs.Writes.{Writing}
use Rattle.denorm.proofs.write.Given as goal

abbrev pub invariant-loop-id : goal.invariant-loop-id
invariant-loop-id l = Writing l.list l.low l.step l.initial.out l.out l.at l.id-index
