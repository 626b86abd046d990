-- `covering::come_to` meets its contract, by the kind of answer. Assumes nothing.
use Rattle.covering.specs.Covering.{comes_to}
use Rattle.covering.proofs.come_to.Goals as goal

pub returns-in-Outer : goal.returns-in-Outer
unfolding comes_to
returns-in-Outer c = rw c.in-Outer.is c.run_and_finish.ensures

pub returns-in-Inner : goal.returns-in-Inner
unfolding comes_to
returns-in-Inner c = rw c.in-Inner.is c.run_and_finish-in-Inner.ensures

pub returns-in-Fast : goal.returns-in-Fast
unfolding comes_to
returns-in-Fast c = rw c.in-Fast.is c.lay_fast.ensures
