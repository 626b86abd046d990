-- `Job::proceed` meets its contract. The invariant: the state is one that the defined run reaches, and the steps from here are those left from the start.
use Prim.Native.Nat.{◌-◌}
use Rattle.coverer.proofs.Runs.{Going}
use Rattle.coverer.specs.Engine.{task}
use Rattle.coverer.proofs.Job.proceed.Given as goal

abbrev pub invariant-loop-t : goal.invariant-loop-t
invariant-loop-t l = Going l.self.engine (task l.self) l.allowance l.initial.m l.initial.t l.m l.t

abbrev pub decreases-loop-t : goal.decreases-loop-t
decreases-loop-t l = l.allowance - l.t.steps
