-- What the sweep counts on: private contracts only, nothing here need be believed. It stands at the leaf p, with the cells of each list that end after it, and
-- the stretch [s, p) of wanted leaves just before it; and which answers are short.
use Rattle.std.specs.Prelude.{Bool, true, false, List, [], ◌∷◌, ℕ, ◌+◌, leb, ltb, drop}
use Rattle.cellunion.specs.CellUnion.{lo, hi}
use Rattle.ranges.specs.Ranges.{leaves, tile}
use Rattle.sets.specs.declared.Cursor.{Cursor}
use Rattle.sets.specs.declared.Op.{Op}
use Rattle.sets.specs.declared.Op.TheVariants.{Union, Common, Difference}

-- the first of some cells has begun by p
unfoldable pub begun : List ℕ → ℕ → Bool
begun [] p = false
begun (x ∷ l) p = leb (lo x) p

-- the next leaf at which it begins or has ended; without a cell, the number of leaves
unfoldable pub edge : List ℕ → ℕ → ℕ
edge [] p = leaves
edge (x ∷ l) p = elim (leb (lo x) p) [ true ↦ hi x | false ↦ lo x ]

-- where a list stands at p, its next cell at place i: what was just said of the cells from there on
unfoldable pub cursor_at : List ℕ → ℕ → ℕ → Cursor
cursor_at l i p = record { at = i; edge = edge (drop i l) p; inside = begun (drop i l) p }

-- the same at q, which is no further than the edge: at the edge the cell has ended if it had begun, and else begins
unfoldable pub next_place : Cursor → ℕ
next_place c = elim c.inside [ true ↦ c.at + 1 | false ↦ c.at ]

unfoldable pub moved_to : List ℕ → Cursor → ℕ → Cursor
moved_to l c q = elim (ltb q c.edge) [ true ↦ c | false ↦ cursor_at l (next_place c) q ]

-- the leaves from p to before q are wanted, or not: the cells that are done with then, and where the stretch begins that is open
unfoldable pub done_with : Bool → ℕ → ℕ → List ℕ
done_with want s p = elim want [ true ↦ [] | false ↦ tile s p ]

unfoldable pub open_from : Bool → ℕ → ℕ → ℕ
open_from want s q = elim want [ true ↦ s | false ↦ q ]

-- the answer is no longer than both lists (proofs/Lengths)
unfoldable pub is_short : Op → Bool
is_short Union = true
is_short Common = true
is_short Difference = false
