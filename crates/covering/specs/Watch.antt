-- What is seen of a request's run after so many steps, for those who follow it: the bars 1 to 6 and 14 first, then the run's own refusals, or how it stands.
-- Assumes nothing.
use Rattle.std.specs.Prelude.{◌≡◌, Bool, List, ℕ, length, Result, Ok, Err}
use Rattle.region.specs.Region.{Area, bound_of}
use Rattle.run.specs.declared.RegionCoverer.{RegionCoverer}
use Rattle.run.specs.Run.{Task, Outcome, after, memory_words}
use Rattle.candidate.specs.Candidate.{task_of}
use Rattle.fast.specs.Memory.{starts_for}
use Rattle.coverer.specs.declared.Seen.{Seen}
use Rattle.coverer.specs.Coverer.{course_of, cleared}
use Rattle.coverer.specs.Watch.{seen_of, seen_over}
use Rattle.refusal.specs.declared.Refusal.{Refusal}
use Rattle.bars.specs.Bars.{Bar, bar_of}
use Rattle.covering.specs.Covering.{asked_of}

-- the defined run of a request after so many steps, from its start cells
unfoldable pub after_of : Bool → RegionCoverer → Area → ℕ → Outcome
after_of inner c a steps = after (course_of (asked_of c inner) a) (starts_for c (bound_of a)) steps

-- the answer, the output and the working memory afterwards: 1 to 6 and 14 leave both as they were, all else leaves the words of a run zero
unfoldable pub seen_as : Bar → Task → ℕ → Outcome → Result Seen Refusal
seen_as (Ok u) T room o = seen_of T room o
seen_as (Err r) T room o = Err r

unfoldable pub output_seen : Bar → Task → Outcome → List ℕ → List ℕ
output_seen (Ok u) T o out = seen_over T o out
output_seen (Err r) T o out = out

unfoldable pub memory_seen : Bar → List ℕ → List ℕ
memory_seen (Ok u) mem = cleared 0 memory_words mem
memory_seen (Err r) mem = mem

-- what `watch` ensures of its answer, the working memory and the output
pub record Watched (inner : Bool) (c : RegionCoverer) (a : Area) (steps : ℕ) (r : Result Seen Refusal) (mem mem' out out' : List ℕ) : Type 0 where
  pub answer : r ≡ seen_as (bar_of c a (length mem)) (task_of (asked_of c inner) a) (length out) (after_of inner c a steps)
  pub memory : mem' ≡ memory_seen (bar_of c a (length mem)) mem
  pub output : out' ≡ output_seen (bar_of c a (length mem)) (task_of (asked_of c inner) a) (after_of inner c a steps) out
