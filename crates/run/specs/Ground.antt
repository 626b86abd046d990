-- Words for demand 3, "no ground goes missing": what is asked of start cells, and what is said of the cells that grew from one; and what an engine knows of the
-- cells that it adds and takes. A leaf is given by its number n, as in the crate cellid: its id is 2 * n + 1. Assumes nothing.
use Rattle.std.specs.Prelude.{◌≡◌, Bool, true, false, List, [], ◌∷◌, ◌++◌, ℕ, ◌+◌, ◌-◌, ◌*◌, ◌%◌, ◌≤◌, ◌<◌, eqb, length, get_or}
use Rattle.cellid.specs.CellId.{IsCell, level_of, place_of, parent_at, leaves_of, holds, meets, has_leaf, one}
use Rattle.order.specs.Order.{All}
use Rattle.run.specs.Run.{min_level, max_level, level_mod, Task, Course, Grown, Child, Look, State, divide, terminal, going, look, after, sum_of}
use Rattle.run.specs.declared.Request.{Request}

-- the levels lie in paper 01's domain
pub record Domain (q : Request) : Type 0 where
  pub order : min_level q ≤ max_level q
  pub deep : max_level q ≤ 30

-- a cell at a level of the run: at most max, and below min or in whole steps of level_mod from min
pub record Fit (q : Request) (id : ℕ) : Type 0 where
  pub cell : IsCell id (level_of id) (place_of id)
  pub high : level_of id ≤ max_level q
  pub on : (level_of id - min_level q) % level_mod q ≡ 0

-- what a look has to say of a child that is terminal, and of one that isn't
abbrev pub look_for : Bool → Look
look_for true = terminal
look_for false = divide

-- a child of an expansion: a cell at a level of the run, marked as the look at it says
pub record ChildOk (T : Task) (k : Child) : Type 0 where
  pub fit : Fit T.asked k.id
  pub seen : look T k.id ≡ look_for k.ends

-- a queued cell: to be expanded
pub record Queued (T : Task) (id : ℕ) : Type 0 where
  pub fit : Fit T.asked id
  pub seen : look T id ≡ divide

-- all cells of a state: kept, queued and set aside
unfoldable pub all_cells : State → List Grown
all_cells s = s.raw ++ (s.queue ++ s.aside)

-- those grown from the start cell i
unfoldable pub grown_from : ℕ → List Grown → List ℕ
grown_from i [] = []
grown_from i (c ∷ l) = elim (eqb c.from i) [ true ↦ c.id ∷ grown_from i l | false ↦ grown_from i l ]

-- under how many of l the leaf n lies
unfoldable pub times_covered : List ℕ → ℕ → ℕ
times_covered l n = sum_of (λ y. one (has_leaf y n)) l

-- no two overlap
unfoldable pub Disjoint : List ℕ → Type 0
Disjoint [] = Unit
Disjoint (x ∷ l) = All (λ y. meets x y ≡ false) l × Disjoint l

-- a start cell s and the cells grown from it: they don't overlap, and their leaf counts add up to the start cell's
pub record Tiles (s : ℕ) (l : List ℕ) : Type 0 where
  pub apart : Disjoint l
  pub leaves : sum_of leaves_of l ≡ leaves_of s
  pub same : (n : ℕ) → times_covered l n ≡ one (has_leaf s n)  -- the same leaves, each once

-- a cell lies under the start cell that it grew from
pub record Beneath (starts : List ℕ) (c : Grown) : Type 0 where
  pub from : c.from < length starts
  pub inside : holds (get_or starts c.from 0) c.id ≡ true

-- a set-aside cell: it failed the intersection test, has a level of at most max, and lies under its start cell
pub record Aside (T : Task) (starts : List ℕ) (c : Grown) : Type 0 where
  pub no : T.hits c.id ≡ false
  pub high : level_of c.id ≤ max_level T.asked
  pub start : Beneath starts c

-- the k-th state of an outer run, 0 for the start: every cell lies under the start cell that it grew from; for each start cell, the kept, queued and set-aside
-- cells grown from it don't overlap, and their leaf counts add up to the start cell's
pub record Step (C : Course) (starts : List ℕ) (k : ℕ) : Type 0 where
  pub state : State
  pub is : after C starts k ≡ going state
  pub count : state.steps ≡ k
  pub beneath : All (Beneath starts) (all_cells state)
  pub tiles : (i : ℕ) → i < length starts → Tiles (get_or starts i 0) (grown_from i (all_cells state))
  pub aside : All (Aside C.task starts) state.aside

-- a raw cell: its level runs from min to max in whole steps of level_mod from min; in an inner run it passed the containment test
pub record RawCell (T : Task) (c : Grown) : Type 0 where
  pub low : min_level T.asked ≤ level_of c.id
  pub high : level_of c.id ≤ max_level T.asked
  pub on : (level_of c.id - min_level T.asked) % level_mod T.asked ≡ 0
  pub inside : T.asked.inner ≡ true → T.within c.id ≡ true

-- every containing cell of the leaf n, of levels L to max, passes the intersection test
abbrev pub PassesFrom : Task → ℕ → ℕ → Type 0
PassesFrom T L n = (M : ℕ) → L ≤ M → M ≤ max_level T.asked → T.hits (parent_at (2 * n + 1) M) ≡ true

-- of levels 0 to max
abbrev pub Passes : Task → ℕ → Type 0
Passes T = PassesFrom T 0
