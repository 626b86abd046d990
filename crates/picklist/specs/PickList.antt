-- Pick lists: what one may be, and its two tests. Quoted lines are the words of paper 02, a.
use Rattle.std.specs.Prelude.{Bool, ◌&&◌, ◌||◌, false, List, [], ◌∷◌, ℕ, ◌≤◌, ◌<◌, leb, length, get_or}
use Rattle.cellid.specs.CellId.{last_leaf, holds, meets}
use Rattle.cellunion.specs.CellUnion.{is_list}

-- the most ids of a list
abbrev pub picks_most : ℕ
picks_most = 4096

-- "0 to 4,096 ids, valid, ascending, no cell inside another"
unfoldable pub is_pick_list : List ℕ → Bool
is_pick_list l = leb (length l) picks_most && is_list l

-- some cell of the list passes
unfoldable pub some : (ℕ → Bool) → List ℕ → Bool
some test [] = false
some test (y ∷ l) = test y || some test l

-- "some listed cell and the cell share a leaf"
abbrev pub list_meets : List ℕ → ℕ → Bool
list_meets l id = some (λ y. meets y id) l

-- "It contains a cell if some listed cell does"
abbrev pub list_holds : List ℕ → ℕ → Bool
list_holds l id = some (λ y. holds y id) l

-- ---- for the search: the cells before place r end before the leaf `first`, those from r on don't

pub record Parts (l : List ℕ) (first r : ℕ) : Type 0 where
  pub within : r ≤ length l
  pub before : (i : ℕ) → i < r → last_leaf (get_or l i 0) < first
  pub after : (i : ℕ) → r ≤ i → i < length l → first ≤ last_leaf (get_or l i 0)
