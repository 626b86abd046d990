-- `cellunion::is_valid`: one id after another is tested.
use Rattle.cellunion.proofs.Lists.{Checking}
use Rattle.cellunion.proofs.is_valid.Given as goal

abbrev pub invariant-loop-id : goal.invariant-loop-id
invariant-loop-id l = Checking l.ids l.last l.id-index
