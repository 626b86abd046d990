-- `input::read_line`: what waits goes on waiting, or was written.
use mathlib.Core.Path.{◌≡◌, sym, ◌∙◌}
use Rattle.input.specs.Feed.{line_end, left_waiting}
use Rattle.input.proofs.Feeding.{left_room, left_kept, left_over, left_none}
use Rattle.input.proofs.read_line.Goals as goal
use Rattle.input.proofs.read_line.Goals.{then-is_some+then-longest-page, else-is_some+else-not-write, else-is_some-via-then-is_some+else-longest-page, else-is_some-via-else-is_some}

pub returns-clause-waiting_value : goal.returns-clause-waiting_value
returns-clause-waiting_value c =
    let z = c.requires in
    let left : c.if-is_some.left ≡ left_waiting _ c.args.waiting c.args.longest (line_end c.args.unread.start c.args.unread.end c.args.buf.now) c.args.unread.end = elim c.if-is_some.branch [
      | then-is_some+then-longest-page w ↦ w.left-is ∙ left_kept _ _ _ _ _ _ z.0.order _ c.newline-end.ensures (sym c.is_some.ensures ∙ w.if-is_some.true) w.if-longest-page.true
      | else-is_some+else-not-write w ↦ w.left-is ∙ elim w.else-is_some.branch [
        | else-is_some-via-then-is_some+else-longest-page w' ↦ left_over _ _ _ _ _ _ z.0.order w'.if-longest-page.false
        | else-is_some-via-else-is_some w' ↦ left_none _ _ _ _ _ _ z.0.order z.0.inside _ c.newline-end.ensures (sym c.is_some.ensures ∙ w'.if-is_some.false)
      ]
    ] in
    (left, left_room _ _ _ _ _ _ left z.1 z.2)
