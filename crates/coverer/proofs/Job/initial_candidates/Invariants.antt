-- `Job::initial_candidates` meets its contract. The invariant: the start cells from i on are what is left of the definition's start.
use Rattle.coverer.proofs.Runs.{Starting}
use Rattle.coverer.specs.Engine.{task}
use Rattle.coverer.proofs.Job.initial_candidates.Given as goal

abbrev pub invariant-loop-i : goal.invariant-loop-i
invariant-loop-i l = Starting l.self.engine (task l.self) l.starts l.initial.m l.m l.t l.i
