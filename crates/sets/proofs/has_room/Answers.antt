-- `sets::has_room`: by the lists' lengths, or by the answer's.
use mathlib.Core.Path.{ap}
use Prim.Native.Nat.{ℕ}
use lib.Dec.{leb}
use Rattle.picklist.proofs.Laws.{pick_list}
use Rattle.sets.proofs.Answers.{room_sure}
use Rattle.sets.proofs.has_room.Goals as goal

pub returns-then-a-b : goal.returns-then-a-b
returns-then-a-b c = let P = c.requires in
    room_sure _ _ _ _ _ P.0 P.1 c.is_short.ensures c.if-is_short.true c.if-a-b.true

pub count-requires : goal.count-requires
count-requires c = let P = c.requires in (pick_list _ P.0, pick_list _ P.1)

pub returns : goal.returns
returns c = ap (λ (n : ℕ). leb n c.args.room) c.count.ensures
