use mathlib.Core.Path.{◌∙◌}
use native.Mathlib.Nat.{zero-add}
use Rattle.cellid.proofs.Puts.{put_done}
use Rattle.tokens.proofs.Turns.{lines_end, line_room, line_turn}
use Rattle.tokens.proofs.put_lines.Goals as goal

pub put_line-at-requires : goal.put_line-at-requires
put_line-at-requires c = line_room _ _ c.loop-id.id-index _ _ _ c.loop-id-test.true c.loop-id.invariant c.loop-id.auto.text c.requires

pub loop-id-preserved : goal.loop-id-preserved
loop-id-preserved c = line_turn _ _ c.loop-id.id-index _ _ _ c.loop-id-test.true c.loop-id.invariant _ _ c.put_line-at.ensures.0 c.put_line-at.ensures.1

pub returns : goal.returns
returns c =
    let p = put_done _ 0 _ _ _ _ c.loop-id.invariant (lines_end _ _ c.loop-id.id-index c.loop-id-test.false) in
    (p.0 ∙ zero-add _, p.1)
