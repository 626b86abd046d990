-- `cap::by_place` meets its contract.
use mathlib.Core.Path.{◌≡◌, ◌∙◌}
use native.Mathlib.Omega.{arith}
use Rattle.cap.proofs.Siblings.{row_0, row_1, row_2, row_3}
use Rattle.cap.proofs.by_place.Goals.{In_default}
use Rattle.cap.proofs.by_place.Goals as goal

pub returns-in-0 : goal.returns-in-0
returns-in-0 c = rw c.in-0.is (c.pick.ensures ∙ row_0 _ c.requires.1)

pub returns-in-1 : goal.returns-in-1
returns-in-1 c = rw c.in-1.is (c.pick-in-1.ensures ∙ row_1 _ c.requires.1)

pub returns-in-2 : goal.returns-in-2
returns-in-2 c = rw c.in-2.is (c.pick-in-2.ensures ∙ row_2 _ c.requires.1)

last : (c : In_default) → c.args.row ≡ 3
last c = grind (arith)

pub returns-in_default : goal.returns-in_default
returns-in_default c = rw (last (goal.at.returns-in_default c).In_default) (c.pick-in_default.ensures ∙ row_3 _ c.requires.1)
