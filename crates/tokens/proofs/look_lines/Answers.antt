use mathlib.Core.Path.{sym, ◌∙◌}
use Rattle.tokens.proofs.Turns.{zero_bad, read_turn, read_bad, read_done, read_full}
use Rattle.tokens.proofs.look_lines.Goals as goal
use Rattle.tokens.proofs.look_lines.Goals.{in_default-via-in-Some+else-is_valid, in_default-via-in_default}

pub loop-at-preserved : goal.loop-at-preserved
loop-at-preserved c = read_turn _ _ _ _ c.loop-at.invariant _ c.in-Some.ensures (sym c.is_valid.ensures ∙ c.if-is_valid.true)

pub returns-in_default : goal.returns-in_default
returns-in_default c = elim c.in_default.branch [
  | in_default-via-in-Some+else-is_valid w ↦ read_bad _ _ _ _ c.loop-at.invariant _ _ _ w.in-Some.ensures.first (sym w.is_valid.ensures ∙ w.if-is_valid.false)
  | in_default-via-in_default w ↦ read_bad _ _ _ _ c.loop-at.invariant _ _ _ w.in_default.ensures.first zero_bad
]

pub returns-then-k-room : goal.returns-then-k-room
returns-then-k-room c = read_done _ _ _ _ c.loop-at.invariant c.loop-at-test.false _ c.if-k-room.true

pub returns-else-k-room : goal.returns-else-k-room
returns-else-k-room c = read_full _ _ _ _ c.loop-at.invariant c.loop-at-test.false _ c.if-k-room.false
