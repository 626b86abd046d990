-- The two engines, the quick one and the plain one: a request as one of them answered it. Paper 02: "It must give the same answer as the quick one on every request";
-- "Same limits, same refusals, same working memory after it."
use Rattle.std.specs.Prelude.{List, ℕ, length, Result}
use Rattle.refusal.specs.declared.Refusal.{Refusal}
use Rattle.region.specs.Region.{Area}
use Rattle.run.specs.declared.RegionCoverer.{RegionCoverer}
use Rattle.queue.specs.declared.Engine.{Engine}
use Rattle.covering.specs.declared.Answer.{Answer}
use Rattle.covering.specs.declared.Kind.{Kind}
use Rattle.covering.specs.Covering.{result_of, Answered}

-- a request: its kind, numbers, region and allowance, the working memory and the output that are lent
pub record Posed : Type 0 where
  pub kind : Kind
  pub coverer : RegionCoverer
  pub area : Area
  pub allowance : ℕ
  pub mem : List ℕ
  pub out : List ℕ

-- what a request left: the answer, the working memory and the output
pub record Left : Type 0 where
  pub answer : Result Answer Refusal
  pub mem : List ℕ
  pub out : List ℕ

-- what `covering::respond` ensures of what it leaves, told to use the engine e
pub record LeftBy (e : Engine) (q : Posed) (l : Left) : Type 0 where
  pub answered : Answered (result_of q.kind q.coverer q.area q.allowance (length q.mem) (length q.out)) l.answer q.mem l.mem q.out l.out
