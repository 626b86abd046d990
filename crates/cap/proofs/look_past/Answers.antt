-- `cap::look_past` meets its contract.
use mathlib.Core.Path.{sym, ap, ◌∙◌}
use Rattle.cap.specs.Looks.{sight_past}
use Rattle.cap.proofs.Looks.{touches_not}
use Rattle.cap.proofs.look_past.Goals as goal

pub touches_by-requires : goal.touches_by-requires
touches_by-requires c = let z = c.requires in (sym z.0 ∙ c.if-can.true, z.1, z.2, z.3 c.if-can.true)

pub returns-then-can : goal.returns-then-can
returns-then-can c = c.sight_past.ensures ∙ ap (sight_past c.args.all) c.touches_by.ensures

pub returns-else-can : goal.returns-else-can
returns-else-can c = rw (touches_not c.args.other c.args.c (sym c.requires.0 ∙ c.if-can.false)) c.sight_past-else-can.ensures
