-- What the engine gives: the defined run's outcome, and the working memory in each case. The memory's first words are the queue's records, four words each;
-- the next ones the kept ids, in the order kept; the words past these are never touched.
use Rattle.std.specs.Prelude.{List, ◌++◌, ℕ, ◌+◌, ◌-◌, length, drop}
use Rattle.std.specs.Prelude.{Result}
use Rattle.std.specs.Prelude.Result.{Ok, Err}
use Rattle.refusal.specs.declared.Refusal.{Refusal}
use Rattle.cellunion.specs.Memory.{zeros, laid}
use Rattle.region.specs.Region.{Area}
use Rattle.run.specs.declared.Request.{Request}
use Rattle.run.specs.Run.{queue_words, memory_words, Course, Outcome, refused, going, in_edition, run, raw_ids}
use Rattle.run.specs.Sixes.{aside_six}
use Rattle.candidate.specs.Candidate.{task_of}
use Rattle.coverer.specs.declared.Ran.{Ran}

-- m with zeros in the words from a to before b
abbrev pub cleared : ℕ → ℕ → List ℕ → List ℕ
cleared a b m = laid a (zeros (b - a)) m

-- m with zeros in the first b words, but for l, which begins at the word a
unfoldable pub only_words : ℕ → ℕ → List ℕ → List ℕ → List ℕ
only_words a b l m = zeros a ++ (l ++ (zeros (b - (a + length l)) ++ drop b m))

-- what a request's run on a region goes by: the region's two tests; the order of its edition
abbrev pub course_of : Request → Area → Course
course_of q a = in_edition (task_of q a)

-- the defined run
unfoldable pub outcome_of : Request → Area → List ℕ → ℕ → Outcome
outcome_of q a starts allowance = run (course_of q a) starts allowance

-- "7 to 9 come as the run meets them"; "Success returns count, steps and set-aside", by start cell
unfoldable pub engine_answer : Outcome → Result Ran Refusal
engine_answer (refused r) = Err r
engine_answer (going s) = Ok (record { count = length s.raw; steps = s.steps; aside = aside_six s })

-- the working memory afterwards: a refusal leaves the words of a run zero, a success the raw list behind the queue's words and zeros beside it
unfoldable pub engine_memory : Outcome → List ℕ → List ℕ
engine_memory (refused r) m = cleared 0 memory_words m
engine_memory (going s) m = only_words queue_words memory_words (raw_ids s) m
