-- The public answers (paper 01, "Request numbers"): what each request comes to, and what stands in the working memory and in the output afterwards.
-- Quoted lines are the paper's words.
use Rattle.std.specs.Prelude.{◌≡◌, Bool, true, false, List, ◌++◌, ℕ, leb, length, drop, Option, Some, None, Ok, Err}
use Rattle.std.specs.Prelude as Std
use Rattle.refusal.specs.declared.Refusal.{Refusal}
use Rattle.region.specs.Region.{Area, bound_of}
use Rattle.cellunion.specs.CellUnion.{normalise}
use Rattle.denorm.specs.Denorm.{denormalise}
use Rattle.run.specs.declared.RegionCoverer.{RegionCoverer}
use Rattle.run.specs.declared.Request.{Request}
use Rattle.fast.specs.Memory.{starts_for, fast_covering_for}
use Rattle.totals.specs.declared.Totals.{Totals}
use Rattle.totals.specs.Totals.{no_totals}
use Rattle.run.specs.Run.{Outcome, raw_ids, memory_words}
use Rattle.run.specs.Sixes.{aside_six}
use Rattle.run.specs.Run as Run
use Rattle.coverer.specs.Coverer.{outcome_of, cleared}
use Rattle.cellunion.specs.Memory.{normalised}
use Rattle.covering.specs.declared.Answer.{Answer}
use Rattle.bars.specs.Bars.{Bar, bar_of}
use Rattle.covering.specs.declared.Ending.{Ending}
use Rattle.covering.specs.declared.Kind.{Kind}

-- ---- what a request comes to

-- barred, before anything is touched; refused, when the working memory has been used; or a list with the number of steps and the set-aside totals
pub data Result : Type 0 where
  barred : Refusal → Result
  refused : Refusal → Result
  done : List ℕ → ℕ → Totals → Result

-- 10: "the finished list is longer than the output"
unfoldable pub fitted : ℕ → List ℕ → ℕ → Totals → Result
fitted room l steps aside = elim (leb (length l) room) [ true ↦ done l steps aside | false ↦ refused Refusal.ListTooLong ]

-- 1 to 6 and 14 come before anything else
unfoldable pub checked : Bar → Result → Result
checked (Ok u) R = R
checked (Err r) R = barred r

-- the list that is asked for: the raw result list in the order kept, the normalised one, or the final one ("`covering` and `interior_covering` do both")
unfoldable pub list_of : Ending → RegionCoverer → List ℕ → List ℕ
list_of Ending.Raw c raw = raw
list_of Ending.CellUnion c raw = normalise raw
list_of Ending.Covering c raw = denormalise c.min_level c.level_mod (normalise raw)

-- 7, 8 and 9 "come as the run meets them"
unfoldable pub ended_as : Ending → RegionCoverer → ℕ → Outcome → Result
ended_as e c room (Run.refused r) = refused r
ended_as e c room (Run.going s) = fitted room (list_of e c (raw_ids s)) s.steps (aside_six s)

-- what is asked of the run
abbrev pub asked_of : RegionCoverer → Bool → Request
asked_of c inner = record { coverer = c; inner = inner }

-- the defined run of a request, from its start cells
unfoldable pub ran_of : Bool → RegionCoverer → Area → ℕ → Outcome
ran_of inner c a allowance = outcome_of (asked_of c inner) a (starts_for c (bound_of a)) allowance

-- what a request of each kind comes to, once nothing bars it; "`fast_covering` gives only 1 to 6 and 10, with 0 steps"; of editions, "fast ignores it"
unfoldable pub comes_to : Kind → RegionCoverer → Area → ℕ → ℕ → Result
comes_to (Kind.Outer e) c a allowance room = ended_as e c room (ran_of false c a allowance)
comes_to (Kind.Inner e) c a allowance room = ended_as e c room (ran_of true c a allowance)
comes_to Kind.Fast c a allowance room = fitted room (fast_covering_for c (bound_of a)) 0 no_totals

-- a request of any kind, with the lengths of the working memory and of the output
unfoldable pub result_of : Kind → RegionCoverer → Area → ℕ → ℕ → ℕ → Result
result_of k c a allowance memory room = checked (bar_of c a memory) (comes_to k c a allowance room)

-- ---- what the caller sees

-- a refusal; or "Success returns count, steps and set-aside"
unfoldable pub answer_of : Result → Std.Result Answer Refusal
answer_of (barred r) = Err r
answer_of (refused r) = Err r
answer_of (done l steps aside) = Ok (record { count = length l; steps = steps; aside = aside })

-- the values for those who see the number beside them, 0 for a success (refusal's `number_told`): "Each refusal returns its number, count 0, steps 0, set-aside 0",
-- "six zeros"
abbrev pub values_told : Std.Result Answer Refusal → Answer
values_told (Ok a) = a
values_told (Err r) = record { count = 0; steps = 0; aside = no_totals }

-- "the output unchanged"; "the list in the output's first places, the rest of the output unchanged"
unfoldable pub output_after : Result → List ℕ → List ℕ
output_after (barred r) out = out
output_after (refused r) out = out
output_after (done l steps aside) out = l ++ drop (length l) out

-- 1 to 6 and 14: "unchanged"; 7 to 10 and success: the words of a run, 5,120, are zero; working memory past them "never changes"
unfoldable pub memory_after : Result → List ℕ → List ℕ
memory_after (barred r) mem = mem
memory_after (refused r) mem = cleared 0 memory_words mem
memory_after (done l steps aside) mem = cleared 0 memory_words mem

-- what every public function ensures of its answer, the working memory and the output
pub record Answered (R : Result) (r : Std.Result Answer Refusal) (mem mem' out out' : List ℕ) : Type 0 where
  pub answer : r ≡ answer_of R
  pub memory : mem' ≡ memory_after R mem
  pub output : out' ≡ output_after R out

-- ---- for the functions that the public ones share

-- the words that held the raw list, once the list asked for is made of them in place
unfoldable pub left_by : Ending → ℕ → List ℕ → List ℕ
left_by Ending.Raw count ids = ids
left_by Ending.CellUnion count ids = normalised count ids
left_by Ending.Covering count ids = normalised count ids

-- the answer to a list that was laid over the output, or had no room there
abbrev pub answer_laid : Option ℕ → ℕ → Totals → Std.Result Answer Refusal
answer_laid (Some count) steps aside = Ok (record { count = count; steps = steps; aside = aside })
answer_laid None steps aside = Err Refusal.ListTooLong
