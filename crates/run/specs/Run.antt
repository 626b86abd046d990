-- The defined run of paper 01, over any two tests on cell ids and any order of the queue. Quoted lines are the paper's words, from "The run" and
-- "Request numbers". The start cells come as a list of ids. Assumes nothing.
use Rattle.std.specs.Prelude.{Bool, true, false, ◌&&◌, ◌||◌, not, List, [], ◌∷◌, ◌++◌, map, ℕ, zero, suc, ◌+◌, ◌*◌, ◌^◌, leb, ltb, eqb, length}
use Rattle.cellid.specs.CellId.{level_of, child_of}
unfoldable pub use Rattle.cellid.specs.CellId.{leaves_of}
use Rattle.refusal.specs.declared.Refusal.{Refusal}
use Rattle.order.specs.Order.{insert}
use Rattle.order.specs.Lex.{lexb}
use Rattle.run.specs.declared.Request.{Request}

-- ---- what is asked, what a run goes by, and what it holds

-- the five numbers of a request
abbrev pub min_level : Request → ℕ
min_level q = q.coverer.min_level

abbrev pub max_level : Request → ℕ
max_level q = q.coverer.max_level

abbrev pub level_mod : Request → ℕ
level_mod q = q.coverer.level_mod

abbrev pub max_cells : Request → ℕ
max_cells q = q.coverer.max_cells

abbrev pub edition : Request → ℕ
edition q = q.coverer.edition

-- how many candidates the queue holds, and how many cells the raw result list, at most
abbrev pub queue_most : ℕ
queue_most = 1024

abbrev pub raw_most : ℕ
raw_most = 1024

-- words of working memory: the queue's, four a candidate; and all that a run uses, a word for each raw cell behind them
abbrev pub queue_words : ℕ
queue_words = 4096

abbrev pub memory_words : ℕ
memory_words = 5120

-- a cell of a run: the place of the start cell that it grew from, and its id
pub record Grown : Type 0 where
  pub from : ℕ
  pub id : ℕ

-- what a run is set to: the request, the intersection test and the containment test
pub record Task : Type 0 where
  pub asked : Request
  pub hits : ℕ → Bool
  pub within : ℕ → Bool

-- what a run goes by: its task, and which of two queued cells goes before the other
pub record Course : Type 0 where
  pub task : Task
  pub before : Grown → Grown → Bool

infixl 10 ◌by◌
abbrev pub ◌by◌ : Task → (Grown → Grown → Bool) → Course
T by lt = record { task = T; before = lt }

-- a state of a run
pub record State : Type 0 where
  pub raw : List Grown  -- the raw result list, in the order kept
  pub queue : List Grown  -- the next one first
  pub aside : List Grown  -- the cells set aside
  pub steps : ℕ

-- refused, or running on in a state
pub data Outcome : Type 0 where
  refused : Refusal → Outcome
  going : State → Outcome

unfoldable pub then : Outcome → (State → Outcome) → Outcome
then (refused r) f = refused r
then (going s) f = f s

unfoldable pub is_empty : {A : Type 0} → List A → Bool
is_empty [] = true
is_empty (x ∷ l) = false

unfoldable pub sum_of : {A : Type 0} → (A → ℕ) → List A → ℕ
sum_of f [] = 0
sum_of f (x ∷ l) = f x + sum_of f l

-- ---- candidates

-- what a cell is looked at as: it fails the intersection test; none although it intersects; terminal; to be expanded
pub data Look : Type 0 where
  fails : Look
  none : Look
  terminal : Look
  divide : Look

-- "A cell that fails intersects is no candidate. At min or deeper: an outer candidate is terminal if level + level_mod > max or it is contained;
-- an inner one is terminal if contained, and otherwise none if level + level_mod > max."
unfoldable pub look : Task → ℕ → Look
look T id = elim (T.hits id) [
  | false ↦ fails
  | true ↦ elim (ltb (level_of id) (min_level T.asked)) [
    | true ↦ divide
    | false ↦ elim (T.within id) [
      | true ↦ terminal
      | false ↦ elim (ltb (max_level T.asked) (level_of id + level_mod T.asked)) [
        | true ↦ elim T.asked.inner [ true ↦ none | false ↦ terminal ]
        | false ↦ divide
      ]
    ]
  ]
]

-- ---- expansion

pub record Child : Type 0 where
  pub id : ℕ
  pub ends : Bool  -- whether it is terminal

-- the children, ascending, and the cells that failed
pub record Expansion : Type 0 where
  pub children : List Child
  pub failed : List ℕ

unfoldable pub join : Expansion → Expansion → Expansion
join a b = record { children = a.children ++ b.children; failed = a.failed ++ b.failed }

-- of the four children, in order
unfoldable pub four_of : (ℕ → Expansion) → ℕ → Expansion
four_of f id = join (f (child_of id 0)) (join (f (child_of id 1)) (join (f (child_of id 2)) (f (child_of id 3))))

-- a cell that failed
abbrev pub failing : ℕ → Expansion
failing id = record { children = []; failed = id ∷ [] }

-- a cell at the level asked for
unfoldable pub reached : ℕ → Look → Expansion
reached id fails = failing id
reached id none = record { children = []; failed = [] }
reached id terminal = record { children = record { id = id; ends = true } ∷ []; failed = [] }
reached id divide = record { children = record { id = id; ends = false } ∷ []; failed = [] }

-- how many are terminal
unfoldable pub ending : List Child → ℕ
ending [] = 0
ending (c ∷ l) = elim c.ends [ true ↦ suc (ending l) | false ↦ ending l ]

-- 4 ^ level_mod
unfoldable pub full : Request → ℕ
full q = 2 ^ (2 * level_mod q)

-- "cost ((level·4^level_mod + children)·4^level_mod) + terminals", with m for 4 ^ level_mod
unfoldable pub cost_of : ℕ → ℕ → ℕ → ℕ → ℕ
cost_of m level children terminals = (level * m + children) * m + terminals

-- "expanded by one level below min, else by level_mod"
unfoldable pub depth : Request → ℕ → ℕ
depth q id = elim (ltb (level_of id) (min_level q)) [ true ↦ 1 | false ↦ level_mod q ]

module _ (T : Task) where
  -- a cell on the way down, n levels above the level asked for: there it is looked at; "cells between are tested for intersects only"
  unfoldable pub part : ℕ → ℕ → Expansion
  part zero c = reached c (look T c)
  part (suc n) c = elim (T.hits c) [ true ↦ four_of (part n) c | false ↦ failing c ]

  -- "The expansion goes down the asked number of levels, one level inside another"; by no level, which no request asks for, it is the look at the cell
  unfoldable pub expand : ℕ → ℕ → Expansion
  expand zero id = part zero id
  expand (suc n) id = four_of (part n) id

  unfoldable pub expansion_of : ℕ → Expansion
  expansion_of id = expand (depth T.asked id) id

  -- "Outer, at min or deeper, with 4^level_mod terminals: the parent is kept."
  unfoldable pub lifts : ℕ → Bool
  lifts id = not T.asked.inner && (leb (min_level T.asked) (level_of id) && eqb (ending (expansion_of id).children) (full T.asked))

  unfoldable pub cost : ℕ → ℕ
  cost id = cost_of (full T.asked) (level_of id) (length (expansion_of id).children) (ending (expansion_of id).children)

  -- edition 1: "the least cost; equal costs, the smaller id"; of start cells' places, paper 02, h: "smaller first at equal ids"
  unfoldable pub by_id : Grown → Grown → Bool
  by_id a b = lexb (cost a.id ∷ a.id ∷ a.from ∷ []) (cost b.id ∷ b.id ∷ b.from ∷ [])

  -- edition 2, paper 02, i: "level, then children, then terminals, then id, then start cell"
  unfoldable pub level_key : Grown → List ℕ
  level_key c = let k = (expansion_of c.id).children in level_of c.id ∷ length k ∷ ending k ∷ c.id ∷ c.from ∷ []

  unfoldable pub by_level : Grown → Grown → Bool
  by_level a b = lexb (level_key a) (level_key b)

  -- the order of the request's edition; a request of any number but 1 and 2 is barred before its run
  unfoldable pub by_edition : Grown → Grown → Bool
  by_edition a b = elim (eqb (edition T.asked) 2) [ true ↦ by_level a b | false ↦ by_id a b ]

  -- what the task's run goes by, in that order
  abbrev pub in_edition : Course
  in_edition = T by by_edition

-- ---- the run

-- into the raw result list; 8, `RawFull`: "the defined run would keep a 1,025th raw cell"
unfoldable pub keep : Grown → State → Outcome
keep c s = elim (ltb (length s.raw) raw_most) [
  | true ↦ going (record { raw = s.raw ++ (c ∷ []); queue = s.queue; aside = s.aside; steps = s.steps })
  | false ↦ refused Refusal.RawFull
]

-- into the queue; 7, `QueueFull`: "the defined run's queue would hold 1,025 candidates at once"
unfoldable pub enqueue : (Grown → Grown → Bool) → Grown → State → Outcome
enqueue lt c s = elim (ltb (length s.queue) queue_most) [
  | true ↦ going (record { raw = s.raw; queue = insert lt c s.queue; aside = s.aside; steps = s.steps })
  | false ↦ refused Refusal.QueueFull
]

-- cells that grew from the start cell i are set aside: outer only
unfoldable pub set_aside : Request → ℕ → List ℕ → State → State
set_aside q i l s = elim q.inner [
  | true ↦ s
  | false ↦ record { raw = s.raw; queue = s.queue; aside = s.aside ++ map (λ (x : ℕ). record { from = i; id = x }) l; steps = s.steps }
]

-- "An inner run whose result has max_cells or more"
unfoldable pub is_full : Request → State → Bool
is_full q s = q.inner && leb (max_cells q) (length s.raw)

module _ (T : Task) where
  -- "if inner, or below min, or one child, or results + queue + children ≤ max_cells (the taken one not counted)"
  unfoldable pub is_handed_on : Grown → State → Bool
  is_handed_on c s = T.asked.inner || (ltb (level_of c.id) (min_level T.asked) || (eqb (length (expansion_of T c.id).children) 1
      || leb (length s.raw + length s.queue + length (expansion_of T c.id).children) (max_cells T.asked)))

module _ (C : Course) where
  -- "A terminal is kept. Any other is expanded .. No children: dropped. [4^level_mod terminals]: the parent is kept. Else it's queued";
  -- "Set aside, outer: .. when a candidate .. has none [no children], the cells of its expansion that failed. Nothing is set aside under a candidate
  -- that is kept whole."
  unfoldable pub add : Grown → Bool → State → Outcome
  add c ends s = elim ends [
    | true ↦ keep c s
    | false ↦ elim (is_empty (expansion_of C.task c.id).children) [
      | true ↦ going (set_aside C.task.asked c.from (expansion_of C.task c.id).failed s)
      | false ↦ elim (lifts C.task c.id) [
        | true ↦ keep c s
        | false ↦ enqueue C.before c s
      ]
    ]
  ]

  -- "the children are added in order, inner ones only while results are below max_cells"
  unfoldable pub add_all : ℕ → List Child → State → Outcome
  add_all i [] s = going s
  add_all i (k ∷ l) s = elim (is_full C.task.asked s) [
    | true ↦ add_all i l s
    | false ↦ then (add (record { from = i; id = k.id }) k.ends s) (add_all i l)
  ]

  -- c was taken, s is what is left. "An inner run whose result has max_cells or more ends there (that step counts). Otherwise .. the children are added
  -- ..; else the candidate is kept." "Set aside, outer: .. when a candidate is handed on to its children .., the cells of its expansion that failed."
  unfoldable pub step_with : Grown → State → Outcome
  step_with c s = elim (is_full C.task.asked s) [
    | true ↦ going (record { raw = s.raw; queue = []; aside = s.aside; steps = s.steps })
    | false ↦ elim (is_handed_on C.task c s) [
      | false ↦ keep c s
      | true ↦ add_all c.from (expansion_of C.task c.id).children (set_aside C.task.asked c.from (expansion_of C.task c.id).failed s)
    ]
  ]

  -- "A step takes the least cost"; with an empty queue there is no step
  unfoldable pub step_on : List Grown → State → Outcome
  step_on [] s = going s
  step_on (c ∷ l) s = step_with c (record { raw = s.raw; queue = l; aside = s.aside; steps = suc s.steps })

  unfoldable pub step : State → Outcome
  step s = step_on s.queue s

  -- "Set aside, outer: a start cell that fails"
  unfoldable pub start_as : Look → Grown → State → Outcome
  start_as fails c s = going (set_aside C.task.asked c.from (c.id ∷ []) s)
  start_as none c s = going s
  start_as terminal c s = add c true s
  start_as divide c s = add c false s

  unfoldable pub start_all : List Grown → State → Outcome
  start_all [] s = going s
  start_all (c ∷ l) s = then (start_as (look C.task c.id) c s) (start_all l)

-- the start cells with their places, from i on
unfoldable pub placed : ℕ → List ℕ → List Grown
placed i [] = []
placed i (x ∷ l) = record { from = i; id = x } ∷ placed (suc i) l

abbrev pub nothing : State
nothing = record { raw = []; queue = []; aside = []; steps = 0 }

module _ (C : Course) where
  -- the state after n steps, whatever the allowance
  unfoldable pub after : List ℕ → ℕ → Outcome
  after starts zero = start_all C (placed 0 starts) nothing
  after starts (suc n) = then (after starts n) (step C)

  -- from a state on, with so many steps allowed. 9, `Allowance`: "the queue isn't empty and the allowance is used up"; "9 is looked at before each step"
  unfoldable pub loop : ℕ → State → Outcome
  loop zero s = elim (is_empty s.queue) [ true ↦ going s | false ↦ refused Refusal.Allowance ]
  loop (suc a) s = elim (is_empty s.queue) [ true ↦ going s | false ↦ then (step C s) (loop a) ]

  -- the whole run
  unfoldable pub run : List ℕ → ℕ → Outcome
  run starts allowance = then (after starts 0) (loop allowance)

-- ---- what is reported

unfoldable pub raw_ids : State → List ℕ
raw_ids s = map (λ (c : Grown). c.id) s.raw

-- the set-aside total
unfoldable pub aside_total : State → ℕ
aside_total s = sum_of (λ (c : Grown). leaves_of c.id) s.aside
