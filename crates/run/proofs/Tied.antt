-- Where the two editions part ways, by computing. P6 of paper 01, level_mod 1: "level 0, 4 children .. with 4 terminals: 20; level 1, 1 child, 0 terminals: 20
-- too". Edition 1 takes the smaller id, edition 2 the larger cell: here an outer run keeps the same cells in another order, and an inner one is full a step sooner.
use mathlib.Core.Path.{◌≡◌, refl}
use mathlib.Core.Bool.{Bool, true, false, ◌&&◌, ◌||◌}
use mathlib.Core.List.{List, [], ◌∷◌}
use Prim.Native.Nat.{ℕ}
use lib.Dec.{ltb}
use lib.Count.{count_trailing_zeros}
use Rattle.cellid.specs.CellId.{level_of, child_of, leaves_of, holds, meets, low_bit, first_leaf, last_leaf}
use Rattle.order.specs.Order.{insert}
use Rattle.order.specs.Lex.{lexb, first}
use Rattle.run.specs.Run.{Task, Grown, then, is_empty, sum_of, look, join, four_of, reached, part, ending, full, cost_of, depth, expand, expansion_of, lifts, cost, by_id, level_key, by_level, by_edition, in_edition, keep, enqueue, set_aside, is_full, is_handed_on, add, add_all, step_with, step_on, step, start_as, start_all, placed, after, loop, run, raw_ids, aside_total}
use Rattle.run.specs.Editions.{weight, cost_in}
use Rattle.run.proofs.Rows.{Row, row_of}

-- the start cells, a child of face 0 and face 1; and the first child of the former
abbrev small : ℕ
small = 0x0400000000000000

abbrev large : ℕ
large = 0x3000000000000000

abbrev tip : ℕ
tip = 0x0100000000000000

-- a region that has nothing of `small` but that child, of which it holds each child and not the whole; and that holds all of `large`
pub hits : ℕ → Bool
hits id = meets tip id || holds large id

pub within : ℕ → Bool
within id = (holds tip id && ltb 2 (level_of id)) || holds large id

-- min 1, max 30, mod 1
pub task : ℕ → Bool → ℕ → Task
task edition inner cells =
    record { asked = record { coverer = record { min_level = 1; max_level = 30; level_mod = 1; max_cells = cells; edition = edition }; inner = inner }; hits = hits; within = within }

-- whether a goes before b in an edition
pub before : ℕ → Grown → Grown → Bool
before edition = by_edition (task edition false 8)

pub row : ℕ → Bool → ℕ → ℕ → Row
row edition inner cells allowance = row_of (run (in_edition (task edition inner cells)) (small ∷ large ∷ []) allowance)

abbrev four : List ℕ → List ℕ
four l = 0x2400000000000000 ∷ 0x2c00000000000000 ∷ 0x3400000000000000 ∷ 0x3c00000000000000 ∷ l

pub tied :
    (cost (task 1 false 8) large ≡ 20)
    × (cost (task 1 false 8) small ≡ 20)
    × (cost_in (task 2 false 8) large ≡ 24)
    × (cost_in (task 2 false 8) small ≡ 30)
    × (level_key (task 2 false 8) (record { from = 1; id = large }) ≡ 0 ∷ 4 ∷ 4 ∷ large ∷ 1 ∷ [])
    × (level_key (task 2 false 8) (record { from = 0; id = small }) ≡ 1 ∷ 1 ∷ 0 ∷ small ∷ 0 ∷ [])
    × (before 1 (record { from = 0; id = small }) (record { from = 1; id = large }) ≡ true)
    × (before 2 (record { from = 1; id = large }) (record { from = 0; id = small }) ≡ true)
    × (before 1 (record { from = 1; id = 0x2400000000000000 }) (record { from = 0; id = 0x2c00000000000000 }) ≡ true)  -- equal costs: the id,
    × (before 2 (record { from = 1; id = 0x2400000000000000 }) (record { from = 0; id = 0x2c00000000000000 }) ≡ true)
    × (before 1 (record { from = 0; id = small }) (record { from = 1; id = small }) ≡ true)  -- and "smaller first at equal ids"
    × (before 2 (record { from = 0; id = small }) (record { from = 1; id = small }) ≡ true)
    × (row 1 false 8 100 ≡ record { number = 0; raw = tip ∷ four []; steps = 2; aside = 216172782113783808 })  -- outer
    × (row 2 false 8 100 ≡ record { number = 0; raw = four (tip ∷ []); steps = 2; aside = 216172782113783808 })
    × (row 1 true 1 100 ≡ record { number = 0; raw = 0x2400000000000000 ∷ []; steps = 3; aside = 0 })  -- inner, max_cells 1
    × (row 2 true 1 100 ≡ record { number = 0; raw = 0x2400000000000000 ∷ []; steps = 2; aside = 0 })
    × (row 1 true 1 2 ≡ record { number = 9; raw = []; steps = 0; aside = 0 })  -- allowance 2 gives 9 in edition 1 alone
    × (row 2 true 1 2 ≡ row 2 true 1 100)
unfolding cost_in weight run after loop step step_on step_with start_all start_as add add_all is_full is_handed_on lifts keep enqueue set_aside by_edition by_id by_level level_key cost cost_of expansion_of expand part reached look depth full four_of join ending sum_of leaves_of is_empty then placed raw_ids aside_total insert lexb first level_of child_of low_bit count_trailing_zeros meets holds first_leaf last_leaf row_of hits within task before row
tied = (refl, refl, refl, refl, refl, refl, refl, refl, refl, refl, refl, refl, refl, refl, refl, refl, refl, refl)
