-- Paper 01's "Numbers to try" for the run, by computing, over tests that answer alike for every cell, and over face 0 as the region. Start cells: six faces.
use mathlib.Core.Path.{◌≡◌, refl}
use mathlib.Core.Bool.{Bool, true, false}
use mathlib.Core.List.{List, [], ◌∷◌}
use Prim.Native.Nat.{ℕ}
use lib.ListN.{length}
use lib.Count.{count_trailing_zeros}
use Rattle.refusal.specs.Refusal.{number_of}
use Rattle.cellid.specs.CellId.{face_cell, six_faces, level_of, child_of, leaves_of, holds, meets, low_bit, first_leaf, last_leaf}
use Rattle.order.specs.Order.{insert}
use Rattle.order.specs.Lex.{lexb, first}
use Rattle.run.specs.Run.{Outcome, refused, going, then, is_empty, sum_of, look, join, four_of, reached, ending, full, cost_of, depth, expand, expansion_of, lifts, cost, by_id, keep, enqueue, set_aside, is_full, is_handed_on, add, add_all, step_with, step_on, step, start_as, start_all, placed, after, loop, run, raw_ids, aside_total, Task, part, by_edition, in_edition}

-- the number of a refusal, or 0; the raw list, the steps and the set-aside total
pub record Row : Type 0 where
  pub number : ℕ
  pub raw : List ℕ
  pub steps : ℕ
  pub aside : ℕ

unfoldable pub row_of : Outcome → Row
row_of (refused r) = record { number = number_of r; raw = []; steps = 0; aside = 0 }
row_of (going s) = record { number = 0; raw = raw_ids s; steps = s.steps; aside = aside_total s }

-- max 30, mod 1, edition 1
pub asked : Bool → ℕ → ℕ → (ℕ → Bool) → (ℕ → Bool) → ℕ → Row
asked inner min cells hits within allowance =
    let T : Task = record { asked = record { coverer = record { min_level = min; max_level = 30; level_mod = 1; max_cells = cells; edition = 1 }; inner = inner }; hits = hits; within = within } in
    row_of (run (in_edition T) six_faces allowance)

pub every_cell : ℕ → Bool
every_cell id = true

pub no_cell : ℕ → Bool
no_cell id = false

pub rows :
    (asked false 0 8 every_cell every_cell 100 ≡ record { number = 0; raw = six_faces; steps = 0; aside = 0 })  -- full cap, outer, min 0: six faces, 0 steps
    × (length (asked false 1 8 every_cell every_cell 100).raw ≡ 24)  -- min 1: 24 cells,
    × ((asked false 1 8 every_cell every_cell 100).steps ≡ 6)  -- 6 steps;
    × (asked false 1 8 every_cell every_cell 5 ≡ record { number = 9; raw = []; steps = 0; aside = 0 })  -- allowance 5 gives 9
    × (asked true 0 3 every_cell every_cell 100 ≡ record { number = 0; raw = six_faces; steps = 0; aside = 0 })  -- inner, min 0, max_cells 3: six faces
    × (asked true 1 3 every_cell every_cell 100 ≡ record { number = 0; raw = 0x0400000000000000 ∷ 0x0c00000000000000 ∷ 0x1400000000000000 ∷ []; steps = 2; aside = 0 })
    × (asked true 1 0 every_cell every_cell 100 ≡ record { number = 0; raw = []; steps = 1; aside = 0 })  -- max_cells 0: empty, 1 step
    × (asked false 0 8 (meets 0x1000000000000000) (holds 0x1000000000000000) 100
    ≡ record { number = 0; raw = 0x1000000000000000 ∷ []; steps = 0; aside = 5764607523034234880 })  -- cell region face 0
    × ((asked false 0 8 no_cell no_cell 100).raw ≡ [])  -- empty cap: empty list,
    × ((asked false 0 8 no_cell no_cell 100).steps ≡ 0)  -- 0 steps;
    × (asked true 0 8 no_cell no_cell 100 ≡ record { number = 0; raw = []; steps = 0; aside = 0 })  -- inner likewise
unfolding run after loop step step_on step_with start_all start_as add add_all is_full is_handed_on lifts keep enqueue set_aside by_edition by_id cost cost_of expansion_of expand part reached look depth full four_of join ending sum_of leaves_of is_empty then placed raw_ids aside_total insert lexb first level_of child_of low_bit count_trailing_zeros meets holds first_leaf last_leaf face_cell six_faces row_of asked every_cell no_cell
rows = (refl, refl, refl, refl, refl, refl, refl, refl, refl, refl, refl)
