-- `ranges::has_room`: by the list's length, or by its pairs'.
use mathlib.Core.Path.{ap, ◌∙◌}
use Prim.Native.Nat.{ℕ}
use lib.Dec.{leb}
use borrow.Author.Tests.{le-leb}
use Rattle.ranges.proofs.Answers.{room_sure}
use Rattle.ranges.proofs.has_room.Goals as goal

pub returns-then-ids-room : goal.returns-then-ids-room
returns-then-ids-room c = le-leb _ _ c.if-ids-room.true ∙ room_sure _ _ c.if-ids-room.true

pub returns-else-ids-room : goal.returns-else-ids-room
returns-else-ids-room c = ap (λ (n : ℕ). leb n c.args.room) c.words.ensures
