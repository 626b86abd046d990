-- What the code's values stand for in the defined run. Assumes nothing.
use Rattle.std.specs.Prelude.{◌≡◌, Bool, true, not, cond, ◌&&◌, ◌||◌, ℕ, ◌+◌, ◌*◌, ◌^◌, ◌≤◌, ◌<◌, ltb, Option, Some, None}
use Rattle.region.specs.Region.{Area, in_domain, intersects_cell, contains_cell}
use Rattle.run.specs.declared.Found.{Found}
use Rattle.run.specs.declared.Request.{Request}
use Rattle.run.specs.Run.{min_level, max_level, level_mod, Task, Look, fails, none, terminal, divide}
use Rattle.candidate.specs.declared.Candidate.{Candidate}

-- a request's run on a region: its two tests are the region's
abbrev pub task_of : Request → Area → Task
task_of q a = record { asked = q; hits = intersects_cell a; within = contains_cell a }

-- the domain of paper 01: "0 ≤ min_level ≤ max_level ≤ 30; level_mod 1, 2 or 3", and the region's
pub record Asks (q : Request) (a : Area) : Type 0 where
  pub order : min_level q ≤ max_level q
  pub deep : max_level q ≤ 30
  pub some : 0 < level_mod q
  pub few : level_mod q ≤ 3
  pub region : in_domain a ≡ true

-- whether the run asks of a cell of this level if it lies inside: "At min or deeper", but not of an outer one that is "terminal if level + level_mod > max"
abbrev pub asks_whole : Request → ℕ → Bool
asks_whole q level = not (ltb level (min_level q)) && (q.inner || not (ltb (max_level q) (level + level_mod q)))

-- what the run takes a cell of this level for that intersects and isn't contained
abbrev pub crossing_as : Request → ℕ → Look
crossing_as q level = cond (ltb level (min_level q)) divide (cond (ltb (max_level q) (level + level_mod q)) (cond q.inner none terminal) divide)

-- kept, queued, or no candidate
abbrev pub candidate_of : Look → Option Candidate
candidate_of fails = None
candidate_of none = None
candidate_of terminal = Some Candidate.Kept
candidate_of divide = Some Candidate.Queued

-- f has room as the k-th of four parts of `width` places each, above acc
pub record Roomy (acc f : Found) (width k : ℕ) : Type 0 where
  pub wide : width ≤ 16
  pub four : k < 4
  pub present : f.present < 2 ^ width
  pub terminal : f.terminal < 2 ^ width
  pub presents : acc.present < 2 ^ (width * k)
  pub terminals : acc.terminal < 2 ^ (width * k)
