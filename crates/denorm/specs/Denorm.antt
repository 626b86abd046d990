-- Denormalising: the levels that cells go to, and the lists that they become. Quoted lines are paper 01's words, from "Lists".
use Rattle.std.specs.Prelude.{◌≡◌, List, [], ◌∷◌, ◌++◌, ℕ, zero, suc, ◌+◌, ◌-◌, ◌*◌, ◌%◌, ◌^◌, ◌≤◌, ◌<◌, min, max}
use Rattle.cellid.specs.CellId.{Cell, id_of, level_of, place_of}
use Rattle.order.specs.Order.{All}

-- "m = max(level, min); m + ((30 − (m − min)) mod level_mod), at most 30"
unfoldable pub goal : ℕ → ℕ → ℕ → ℕ
goal low step L = min 30 (max L low + (30 - (max L low - low)) % step)

-- n cells of the level L from the place p on
unfoldable pub cells_from : ℕ → ℕ → ℕ → List ℕ
cells_from L p zero = []
cells_from L p (suc n) = id_of L p ∷ cells_from L (p + 1) n

-- "its descendants at that level": the cells of the level M under id, four times as many a level
unfoldable pub below : ℕ → ℕ → List ℕ
below M id = cells_from M (place_of id * 2 ^ (2 * (M - level_of id))) (2 ^ (2 * (M - level_of id)))

-- each cell becomes its descendants at its goal
unfoldable pub denormalise : ℕ → ℕ → List ℕ → List ℕ
denormalise low step [] = []
denormalise low step (id ∷ l) = below (goal low step (level_of id)) id ++ denormalise low step l

-- how many that are: 4 ^ (goal − level) for each cell
unfoldable pub count_of : ℕ → ℕ → List ℕ → ℕ
count_of low step [] = 0
count_of low step (id ∷ l) = 2 ^ (2 * (goal low step (level_of id) - level_of id)) + count_of low step l

-- a level that runs from low to top in whole steps from low
pub record OnStep (low top step L : ℕ) : Type 0 where
  pub from : low ≤ L
  pub to : L ≤ top
  pub on : (L - low) % step ≡ 0

-- what denormalising a list asks
abbrev pub AsksList : ℕ → ℕ → List ℕ → Type 0
AsksList low step l = All Cell l × (low ≤ 30) × (0 < step)
