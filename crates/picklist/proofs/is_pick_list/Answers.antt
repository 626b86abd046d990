-- `picklist::is_pick_list`: short enough and a list, or too long.
use mathlib.Core.Path.{◌∙◌}
use borrow.Author.Tests.{lt-leb}
use Rattle.picklist.proofs.Laws.{pick_yes, pick_no}
use Rattle.picklist.proofs.is_pick_list.Goals as goal

pub returns-then-list-le-PICKS_MOST : goal.returns-then-list-le-PICKS_MOST
returns-then-list-le-PICKS_MOST c = pick_yes _ _ c.if-list-le-PICKS_MOST.true c.is_valid.ensures

pub returns-else-list-le-PICKS_MOST : goal.returns-else-list-le-PICKS_MOST
returns-else-list-le-PICKS_MOST c = lt-leb _ _ c.if-list-le-PICKS_MOST.false ∙ pick_no _ c.if-list-le-PICKS_MOST.false
