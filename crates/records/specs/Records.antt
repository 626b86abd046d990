-- The queue's records of four words in lent memory, their cost and their order. A record is a queued candidate: its cell, its children as two 64-bit sets by
-- Hilbert place, and in one word its cost and the place of its start cell. Assumes nothing.
use Rattle.std.specs.Prelude.{Bool, List, [], ◌∷◌, ℕ, ◌+◌, ◌*◌, ◌/◌, ◌%◌, length, get_or, set}
use Rattle.std.specs.Int.Count.{ones}
use Rattle.cellid.specs.CellId.{level_of}
use Rattle.order.specs.Lex.{lexb}
use Rattle.run.specs.Run.{cost_of}
use Rattle.records.specs.declared.Rec.{Rec}

-- a record's cost, and the place of the start cell that its cell grew from
abbrev pub cost_r : Rec → ℕ
cost_r r = r.rank / 8

abbrev pub from_r : Rec → ℕ
from_r r = r.rank % 8

-- the record of a cell with these children, where a child weighs `weight` and a level `weight` children: run's specs/Editions has what it is in each edition
unfoldable pub record_of : ℕ → ℕ → ℕ → ℕ → ℕ → Rec
record_of weight from id present terminal = record { id = id; present = present; terminal = terminal; rank = 8 * cost_of weight (level_of id) (ones present) (ones terminal) + from }

-- "A step takes the least cost; equal costs, the smaller id"; the start cell's place, "smaller first at equal ids". The sets follow, so that the order decides
-- every pair of records.
unfoldable pub key : Rec → List ℕ
key r = cost_r r ∷ r.id ∷ from_r r ∷ r.present ∷ r.terminal ∷ []

-- whether x goes before y
unfoldable pub before : Rec → Rec → Bool
before x y = lexb (key x) (key y)

-- the record at place i, and the memory with r there
unfoldable pub get_r : List ℕ → ℕ → Rec
get_r m i = record { id = get_or m (4 * i) 0; present = get_or m (4 * i + 1) 0; terminal = get_or m (4 * i + 2) 0; rank = get_or m (4 * i + 3) 0 }

unfoldable pub put_r : List ℕ → ℕ → Rec → List ℕ
put_r m i r = set (set (set (set m (4 * i) r.id) (4 * i + 1) r.present) (4 * i + 2) r.terminal) (4 * i + 3) r.rank

-- how many records a memory has room for
abbrev pub cap_r : List ℕ → ℕ
cap_r m = length m / 4
