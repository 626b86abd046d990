use mathlib.Core.Path.{sym, ◌∙◌}
use Rattle.tokens.proofs.Turns.{look_turn, look_bad, look_done, look_full}
use Rattle.tokens.proofs.look_ids.Goals as goal

pub returns-then-not-is_valid : goal.returns-then-not-is_valid
returns-then-not-is_valid c = look_bad _ _ _ c.loop-i.i c.loop-i.invariant _ c.loop-i-test.true (sym c.is_valid.ensures ∙ c.if-not-is_valid.true)

pub returns-then-size-room : goal.returns-then-size-room
returns-then-size-room c = look_done _ _ _ c.loop-i.i c.loop-i.invariant c.loop-i-test.false _ c.requires c.if-size-room.true

pub returns-else-size-room : goal.returns-else-size-room
returns-else-size-room c = look_full _ _ _ c.loop-i.i c.loop-i.invariant c.loop-i-test.false _ c.if-size-room.false

pub loop-i-preserved : goal.loop-i-preserved
loop-i-preserved c = look_turn _ _ _ c.loop-i.i c.loop-i.invariant _ _ c.loop-i-test.true (sym c.is_valid.ensures ∙ c.if-not-is_valid.false) c.name_length.ensures.0 c.saturating_add-size.ensures
