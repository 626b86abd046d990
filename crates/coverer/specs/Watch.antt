-- What is seen of a run after so many steps, for those who follow it: what is kept, what is queued, what each queued cell costs and which
-- start cell it grew from. Assumes nothing.
use Rattle.std.specs.Prelude.{true, false, List, [], ◌∷◌, ◌++◌, ℕ, leb, length}
use Rattle.std.specs.Prelude.{Result}
use Rattle.std.specs.Prelude.Result.{Ok, Err}
use Rattle.refusal.specs.declared.Refusal.{Refusal}
use Rattle.cellunion.specs.Memory.{laid_over}
use Rattle.run.specs.Run.{Task, Grown, State, Outcome, refused, going, raw_ids}
use Rattle.run.specs.Editions.{cost_in}
use Rattle.run.specs.Sixes.{aside_six}
use Rattle.coverer.specs.declared.Seen.{Seen}

-- each cell's id followed by its cost in the request's edition and its start cell's place
unfoldable pub with_costs : Task → List Grown → List ℕ
with_costs T [] = []
with_costs T (c ∷ l) = c.id ∷ cost_in T c.id ∷ c.from ∷ with_costs T l

-- the kept ids, in the order kept, then the queued cells, the next one first
unfoldable pub standing : Task → State → List ℕ
standing T s = raw_ids s ++ with_costs T s.queue

-- the answer: 7 and 8 as the run meets them, 10, `ListTooLong`, where the output has no room
unfoldable pub seen_of : Task → ℕ → Outcome → Result Seen Refusal
seen_of T room (refused r) = Err r
seen_of T room (going s) = elim (leb (length (standing T s)) room) [
  | true ↦ Ok (record { kept = length s.raw; queued = length s.queue; steps = s.steps; aside = aside_six s })
  | false ↦ Err Refusal.ListTooLong
]

-- the output afterwards; a refusal leaves it as it was
unfoldable pub seen_over : Task → Outcome → List ℕ → List ℕ
seen_over T (refused r) out = out
seen_over T (going s) out = laid_over (standing T s) out
