-- The definitions of Fast.antt for a request, what the functions ask of it, and what they leave in lent memory.
use Rattle.std.specs.Prelude.{List, ◌++◌, map, ℕ, ◌-◌, ◌≤◌, ◌<◌, length, take, drop}
use Rattle.cellid.specs.CellId.{Cell}
use Rattle.order.specs.Order.{All}
use Rattle.cellunion.specs.Memory.{zeros}
use Rattle.run.specs.declared.RegionCoverer.{RegionCoverer}
use Rattle.fast.specs.Fast.{lifted, merged, merged_covering, fast_covering, adjusted_cells, starts_of}

-- the request's numbers lie in the domain, as far as the functions here ask it
pub record NumbersFit (c : RegionCoverer) : Type 0 where
  pub ordered : c.min_level ≤ c.max_level
  pub deep : c.max_level ≤ 30
  pub some : 0 < c.level_mod
  pub few : c.level_mod ≤ 3

abbrev pub lifted_for : RegionCoverer → List ℕ → List ℕ
lifted_for c l = map (lifted c.min_level c.max_level c.level_mod) l

abbrev pub merged_for : RegionCoverer → List ℕ → List ℕ
merged_for c l = merged c.min_level c.level_mod c.max_cells l

abbrev pub merged_covering_for : RegionCoverer → List ℕ → List ℕ
merged_covering_for c l = merged_covering c.min_level c.max_level c.level_mod c.max_cells l

abbrev pub fast_covering_for : RegionCoverer → List ℕ → List ℕ
fast_covering_for c l = fast_covering c.min_level c.max_level c.level_mod c.max_cells l

abbrev pub adjusted_for : RegionCoverer → List ℕ → List ℕ
adjusted_for c l = adjusted_cells c.min_level c.level_mod l

abbrev pub starts_for : RegionCoverer → List ℕ → List ℕ
starts_for c l = starts_of c.min_level c.max_level c.level_mod c.max_cells l

-- l in place of the first n words: zeros in the words that it leaves over, and what stood from n on
unfoldable pub in_place : ℕ → List ℕ → List ℕ → List ℕ
in_place n l m = l ++ (zeros (n - length l) ++ drop n m)

-- the first n words are cells
abbrev pub Cells : ℕ → List ℕ → Type 0
Cells n m = (n ≤ length m) × All Cell (take n m)
