-- `tokens::put_ids`: the ids that are left, put over the places as they are now, make the list that is wanted.
use Prim.Native.Nat.{◌-◌}
use lib.ListN.{length}
use Rattle.tokens.proofs.Turns.{Taking}
use Rattle.tokens.proofs.put_ids.Given as goal

abbrev pub invariant-loop-at : goal.invariant-loop-at
invariant-loop-at l = Taking l.form l.text l.k l.at l.ids l.initial.ids

abbrev pub decreases-loop-at : goal.decreases-loop-at
decreases-loop-at l = length l.text - l.at
