-- `ranges::pairs`: 25 or 26 as the two tests say, or the pairs are written.
use mathlib.Core.Path.{sym, ◌∙◌}
use Rattle.ranges.specs.Ranges.{pairs_result}
use Rattle.ranges.proofs.Answers.{tested_bad, tested_full, tested_done}
use Rattle.ranges.proofs.pairs.Goals as goal

pub has_room-requires : goal.has_room-requires
has_room-requires c = sym c.is_valid.ensures ∙ c.if-not-is_valid.false

pub join-requires : goal.join-requires
join-requires c = sym c.is_valid.ensures ∙ c.if-not-is_valid.false

pub returns : goal.returns
unfolding pairs_result
returns c = tested_done _ _ _ _ c.is_valid.ensures c.if-not-is_valid.false _ c.has_room.ensures _ _ c.if-not-has_room.false c.join.ensures

pub returns-then-not-has_room : goal.returns-then-not-has_room
unfolding pairs_result
returns-then-not-has_room c = tested_full _ _ _ _ c.is_valid.ensures c.if-not-is_valid.false _ c.has_room.ensures c.if-not-has_room.true

pub returns-then-not-is_valid : goal.returns-then-not-is_valid
unfolding pairs_result
returns-then-not-is_valid c = tested_bad _ _ _ _ c.is_valid.ensures c.if-not-is_valid.true
