-- `sets::move_to`: before the edge, or at it.
use mathlib.Core.Path.{◌∙◌}
use Rattle.sets.proofs.Turns.{cells_on, move_none, move_past, move_on}
use Rattle.sets.proofs.move_to.Goals as goal

pub returns-then-q-c : goal.returns-then-q-c
returns-then-q-c c = move_none _ _ _ c.if-q-c.true

pub cursor_at-requires : goal.cursor_at-requires
cursor_at-requires c = cells_on c.args.l.now c.args.c.at c.requires.0

pub returns-then-c : goal.returns-then-c
returns-then-c c = c.cursor_at.ensures ∙ move_past _ c.args.c _ c.if-q-c.false c.if-c.true

pub returns : goal.returns
returns c = c.cursor_at-2.ensures ∙ move_on _ c.args.c _ c.if-q-c.false c.if-c.false
