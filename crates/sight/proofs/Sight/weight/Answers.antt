-- `sight::Sight::weight` meets its contract.
use mathlib.Core.Path.{refl}
use native.Mathlib.Omega.{arith}
use Rattle.cellid.specs.CellId.{one}
use Rattle.sight.proofs.Sight.weight.Goals as goal

pub returns-in-Outside : goal.returns-in-Outside
unfolding one
returns-in-Outside c = rw c.in-Outside.is (refl, omega arith)

pub returns-in-Crossing : goal.returns-in-Crossing
unfolding one
returns-in-Crossing c = rw c.in-Crossing.is (refl, omega arith)

pub returns-in-Inside : goal.returns-in-Inside
unfolding one
returns-in-Inside c = rw c.in-Inside.is (refl, omega arith)
