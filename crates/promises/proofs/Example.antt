-- Two examples, by computing. Why demand 3 doesn't say that each final cell of an inner run passed the containment test: face 0 fails it, its four children
-- pass, the run keeps the four, and the final list is face 0. And a list whose start cells overlap.
use mathlib.Core.Path.{◌≡◌, refl}
use mathlib.Core.Bool.{Bool, true, false, not}
use mathlib.Core.List.{List, [], ◌∷◌}
use Prim.Native.Nat.{ℕ}
use lib.Dec.{eqb}
use lib.Count.{count_trailing_zeros}
use Rattle.cellid.specs.CellId.{level_of, place_of, id_of, child_of, parent_at, holds, low_bit, first_leaf, last_leaf}
use Rattle.order.specs.Order.{insert, sort}
use Rattle.order.specs.Lex.{lexb, first}
use Rattle.cellunion.specs.CellUnion.{normalise, pass, collapse, clear_of, is_four, rev}
use Rattle.denorm.specs.Denorm.{denormalise, goal, below, cells_from}
use Rattle.cellunion.specs.CellUnion as Union
use Rattle.fast.specs.Fast.{adjusted, lifted, merged_in, merged_covering, fast_covering, keep_start, keep_starts, adjusted_cells, starts_of}
use Rattle.run.specs.Run.{Task, in_edition, Outcome, refused, going, then, is_empty, look, part, expand, reached, join, four_of, expansion_of, depth, full, ending, lifts, cost, cost_of, by_id, keep, enqueue, set_aside, is_full, is_handed_on, add, add_all, step_with, step_on, step, start_as, start_all, placed, after, loop, run, raw_ids}

abbrev pub face0 : ℕ
face0 = 0x1000000000000000

-- every cell intersects, and every one but face 0 is contained
pub within : ℕ → Bool
within id = not (eqb id face0)

pub task : Task
task = record { asked = record { coverer = record { min_level = 0; max_level = 1; level_mod = 1; max_cells = 8; edition = 1 }; inner = true }; hits = λ id. true; within = within }

pub raw_of : Outcome → List ℕ
raw_of (refused n) = []
raw_of (going s) = raw_ids s

pub raw : List ℕ
raw = raw_of (run (in_edition task) (face0 ∷ []) 10)

pub parent_fails :
    (raw ≡ 0x0400000000000000 ∷ 0x0c00000000000000 ∷ 0x1400000000000000 ∷ 0x1c00000000000000 ∷ [])
    × (denormalise 0 1 (normalise raw) ≡ face0 ∷ [])
    × (within face0 ≡ false)
unfolding raw raw_of task within run after loop step step_on step_with start_all start_as add add_all is_full is_handed_on lifts keep enqueue set_aside by_id cost cost_of expansion_of expand part reached look depth full four_of join ending is_empty then placed raw_ids insert sort lexb first level_of place_of id_of child_of parent_at holds low_bit first_leaf last_leaf count_trailing_zeros normalise denormalise pass Union.keep_cell collapse clear_of is_four rev goal below cells_from
parent_fails = (refl, refl, refl)

-- with level_mod 3 the third cell goes to level 1 and holds the two kept before it: the last of them goes, the first stays
pub start_in_start :
    starts_of 1 6 3 3 (0x1a90000000000000 ∷ 0x1c10000000000000 ∷ 0x1dc0000000000000 ∷ []) ≡ 0x1a90000000000000 ∷ 0x1c00000000000000 ∷ []
unfolding starts_of adjusted_cells keep_starts keep_start fast_covering merged_covering merged_in lifted adjusted insert sort level_of place_of id_of parent_at holds low_bit first_leaf last_leaf count_trailing_zeros normalise denormalise pass Union.keep_cell collapse clear_of is_four rev goal below cells_from
start_in_start = refl
