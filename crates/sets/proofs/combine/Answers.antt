-- `sets::combine`: refused for one reason or another, or the answer is written.
use mathlib.Core.Path.{sym, ◌∙◌}
use Rattle.picklist.proofs.Laws.{pick_list}
use Rattle.sets.proofs.Answers.{answer_first, answer_second, answer_full, answer_done}
use Rattle.sets.proofs.combine.Goals as goal

pub returns-then-not-is_pick_list : goal.returns-then-not-is_pick_list
returns-then-not-is_pick_list c = answer_first _ _ _ _ _ c.is_pick_list.ensures c.if-not-is_pick_list.true

pub returns-then-not-is_pick_list-2 : goal.returns-then-not-is_pick_list-2
returns-then-not-is_pick_list-2 c = answer_second _ _ _ _ _ c.is_pick_list.ensures c.if-not-is_pick_list.false _ c.is_pick_list-2.ensures c.if-not-is_pick_list-2.true

pub has_room-requires : goal.has_room-requires
has_room-requires c = (sym c.is_pick_list.ensures ∙ c.if-not-is_pick_list.false, sym c.is_pick_list-2.ensures ∙ c.if-not-is_pick_list-2.false)

pub returns-then-not-has_room : goal.returns-then-not-has_room
returns-then-not-has_room c =
    answer_full _ _ _ _ _ c.is_pick_list.ensures c.if-not-is_pick_list.false _ c.is_pick_list-2.ensures c.if-not-is_pick_list-2.false _ c.has_room.ensures c.if-not-has_room.true

pub sweep-requires : goal.sweep-requires
sweep-requires c =
    (pick_list _ (sym c.is_pick_list.ensures ∙ c.if-not-is_pick_list.false), pick_list _ (sym c.is_pick_list-2.ensures ∙ c.if-not-is_pick_list-2.false))

pub returns : goal.returns
returns c =
    answer_done _ _ _ _ _ c.is_pick_list.ensures c.if-not-is_pick_list.false _ c.is_pick_list-2.ensures c.if-not-is_pick_list-2.false _ c.has_room.ensures _ _ c.if-not-has_room.false c.sweep.ensures
