-- The order of either edition as one number for each cell, before its id and its place: what a queued record holds, and what is shown of a queue. That it is the
-- edition's order is shown in proofs/Records. Assumes nothing.
use Rattle.std.specs.Prelude.{true, false, ℕ, ◌+◌, eqb, length}
use Rattle.cellid.specs.CellId.{level_of}
use Rattle.run.specs.Run.{Task, edition, full, cost_of, ending, expansion_of}
use Rattle.run.specs.declared.RegionCoverer.{RegionCoverer}
use Rattle.run.specs.declared.Request.{Request}

-- what a level and a child weigh: 4^level_mod in edition 1, where a full count carries; one more in edition 2, so that none does
unfoldable pub weight : Request → ℕ
weight q = elim (eqb (edition q) 2) [ true ↦ full q + 1 | false ↦ full q ]

-- a cell's cost in the request's edition; in edition 1 paper 01's
unfoldable pub cost_in : Task → ℕ → ℕ
cost_in T id = cost_of (weight T.asked) (level_of id) (length (expansion_of T id).children) (ending (expansion_of T id).children)

-- a request's numbers in another edition
abbrev pub with_edition : RegionCoverer → ℕ → RegionCoverer
with_edition c n = record { min_level = c.min_level; max_level = c.max_level; level_mod = c.level_mod; max_cells = c.max_cells; edition = n }
