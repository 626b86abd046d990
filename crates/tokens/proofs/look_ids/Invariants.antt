-- `tokens::look_ids`: what was seen and what the lines need, id after id.
use Rattle.tokens.proofs.Turns.{Looking}
use Rattle.tokens.proofs.look_ids.Given as goal

abbrev pub invariant-loop-i : goal.invariant-loop-i
invariant-loop-i l = Looking l.form l.ids l.size l.i
