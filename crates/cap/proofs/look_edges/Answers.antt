-- `cap::look_edges` meets its contract.
use mathlib.Core.Path.{sym, ap, ◌∙◌}
use Rattle.cap.specs.Looks.{sight_past}
use Rattle.cap.proofs.Looks.{touches_not}
use Rattle.cap.proofs.look_edges.Goals as goal

pub touches_by-requires : goal.touches_by-requires
touches_by-requires c = (sym c.can_reach.ensures ∙ c.if-can_reach.true, c.requires.0, c.requires.1, tt)

pub returns-then-can_reach : goal.returns-then-can_reach
returns-then-can_reach c = rw (← c.other_side-other.ensures) (c.sight_past.ensures ∙ ap (sight_past c.args.all) c.touches_by.ensures)

pub returns-else-can_reach : goal.returns-else-can_reach
returns-else-can_reach c = rw (← c.other_side-other.ensures, touches_not c.other_side-other.result c.args.c (sym c.can_reach.ensures ∙ c.if-can_reach.false)) c.sight_past-else-can_reach.ensures
