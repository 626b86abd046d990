-- What is promised of every request that isn't refused: demand 3, in words over the defined run. `C` is what the run goes by, `starts` are the start cells,
-- `s` is the state in which the run ended, `list` what is handed back. Assumes nothing.
use Rattle.std.specs.Prelude.{◌≡◌, true, List, [], ℕ, ◌≤◌, ◌<◌, length, get_or}
use Rattle.cellid.specs.CellId.{level_of, has_leaf}
use Rattle.order.specs.Order.{All}
use Rattle.cellunion.specs.CellUnion.{covers, SameLeaves, Member}
use Rattle.denorm.specs.Denorm.{OnStep}
use Rattle.run.specs.declared.Request.{Request}
use Rattle.run.specs.Run.{min_level, max_level, level_mod, Task, Course, State, going, after, raw_ids}
use Rattle.run.specs.Ground.{all_cells, Aside, Beneath, Step, PassesFrom}

-- a leaf under a start cell, whose every containing cell from that start cell's level to max passes the intersection test, lies under a cell of the list
abbrev pub NoneMissing : Task → List ℕ → List ℕ → Type 0
NoneMissing T starts list = (i n : ℕ) → i < length starts → has_leaf (get_or starts i 0) n ≡ true → PassesFrom T (level_of (get_or starts i 0)) n → covers list n ≡ true

-- every "cell's level runs from min to max in whole steps of level_mod from min"
abbrev pub OnLevels : Request → List ℕ → Type 0
OnLevels q list = All (λ id. OnStep (min_level q) (max_level q) (level_mod q) (level_of id)) list

-- the run ended in s: nothing is queued, and s is the state after its steps
pub record Ended (C : Course) (starts : List ℕ) (s : State) : Type 0 where
  pub empty : s.queue ≡ []
  pub last : after C starts s.steps ≡ going s

-- an outer run and its list
pub record Outer (C : Course) (starts : List ℕ) (s : State) (list : List ℕ) : Type 0 where
  pub ended : Ended C starts s
  pub each : (k : ℕ) → k ≤ s.steps → Step C starts k  -- after each step, at the start and at the end
  pub aside : All (Aside C.task starts) s.aside  -- "each set-aside cell did fail the intersection test"
  pub missing : NoneMissing C.task starts list
  pub levels : OnLevels C.task.asked (raw_ids s)
  pub same : SameLeaves list (raw_ids s)  -- the list has the raw list's leaves

-- an inner run and its list. Not: each cell of the list passed the containment test. Four passing siblings may merge into a parent that doesn't.
pub record Inner (C : Course) (starts : List ℕ) (s : State) (list : List ℕ) : Type 0 where
  pub ended : Ended C starts s
  pub beneath : All (Beneath starts) (all_cells s)  -- every cell lies under the start cell that it grew from
  pub passed : All (λ id. C.task.within id ≡ true) (raw_ids s)  -- "each raw cell passed the containment test"
  pub inside : (n : ℕ) → covers list n ≡ true → (id : ℕ) × Member id (raw_ids s) × (C.task.within id ≡ true) × (has_leaf id n ≡ true)
  pub levels : OnLevels C.task.asked (raw_ids s)
  pub same : SameLeaves list (raw_ids s)
