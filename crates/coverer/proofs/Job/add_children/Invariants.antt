-- `Job::add_children` meets its contract. The invariant: the children from j on are what is left of the definition's additions.
use Rattle.coverer.specs.Coverer.{course_of}
use Rattle.run.specs.Run.{add_all}
use Rattle.run.specs.Ground.{ChildOk}
use Rattle.run.specs.declared.Request.{Request}
use Prim.Native.Nat.{ℕ}
use Rattle.candidate.specs.Candidate.{task_of}
use Rattle.coverer.proofs.Adds.{Waiting}
use Rattle.coverer.proofs.Stands.{Goes}
use Rattle.coverer.specs.Engine.{children_from}
use Rattle.coverer.specs.declared.Brood.{Brood}
use Rattle.coverer.specs.declared.Counts.{Counts}
use Rattle.queue.specs.declared.Engine.{Engine}
use Rattle.region.specs.Region.{Area, area_of}
use mathlib.Core.List.{List}
use Rattle.coverer.proofs.Job.add_children.Given as goal

pub record Inv (e : Engine) (q : Request) (a : Area) (b : Brood) (m₀ : List ℕ) (t₀ : Counts) (m : List ℕ) (t : Counts) (j : ℕ) : Type 0 where
  pub waits : Waiting (ChildOk (task_of q a)) t (children_from b j)
  pub goes : Goes e (task_of q a) b.from (add_all (course_of q a) b.from (children_from b 0)) (add_all (course_of q a) b.from (children_from b j)) m₀ t₀ m t

abbrev pub invariant-loop-j : goal.invariant-loop-j
invariant-loop-j l = Inv l.self.engine l.self.asking.request (area_of l.self.asking.region) l.b l.initial.m l.initial.t l.m l.t l.j
