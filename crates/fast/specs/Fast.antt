-- Fast coverings and start cells: paper 01's "Lists" and "The run: Start", the latter as paper 02's request b has it. `low` and `top` are the request's min and max level, `step` its
-- level_mod, `cells` its max_cells.
use Rattle.std.specs.Prelude.{true, false, Option, Some, None, List, [], ◌∷◌, ◌++◌, map, ℕ, zero, suc, ◌+◌, ◌-◌, ◌%◌, min, length, take, drop, get_or, ltb, leb}
use Rattle.cellid.specs.CellId.{level_of, parent_at, holds, common_level}
use Rattle.cellunion.specs.CellUnion.{normalise, rev}
use Rattle.denorm.specs.Denorm.{denormalise}
use Rattle.fast.specs.declared.Best.{Best}

-- Adjusted level: below or at min unchanged; above, level - ((level - min) mod level_mod).
unfoldable pub adjusted : ℕ → ℕ → ℕ → ℕ
adjusted low step L = elim (leb L low) [ true ↦ L | false ↦ L - (L - low) % step ]

-- ---- fast covering

-- Levels above max or off step move to the ancestor at the adjusted level of the smaller of level and max. (A cell that stands there is its own.)
unfoldable pub lifted : ℕ → ℕ → ℕ → ℕ → ℕ
lifted low top step id = parent_at id (adjusted low step (min (level_of id) top))

-- One more than the adjusted level of the common ancestor, and 0 for none: no ancestor counts as -1.
unfoldable pub depth_of : ℕ → ℕ → Option ℕ → ℕ
depth_of low step None = 0
depth_of low step (Some L) = adjusted low step L + 1

unfoldable pub pair_depth : ℕ → ℕ → ℕ → ℕ → ℕ
pair_depth low step a b = depth_of low step (common_level a b)

-- Of the first k neighbouring pairs the one with the deepest adjusted common-ancestor level, the first of equals: where it stands, and that
-- level and one.
unfoldable pub best_of : ℕ → ℕ → List ℕ → ℕ → Best
best_of low step l zero = record { at = 0; depth = 0 }
best_of low step l (suc k) =
    elim (ltb (best_of low step l k).depth (pair_depth low step (get_or l k 0) (get_or l (suc k) 0))) [
      | true ↦ record { at = k; depth = pair_depth low step (get_or l k 0) (get_or l (suc k) 0) }
      | false ↦ best_of low step l k
    ]

-- The pair is replaced by its ancestor.
unfoldable pub joined : List ℕ → Best → List ℕ
joined l b = take b.at l ++ (parent_at (get_or l b.at 0) (b.depth - 1) ∷ drop (b.at + 2) l)

-- While longer than max_cells, the best pair is replaced, and the list normalised again; merging ends as soon as the best level found lies
-- below min, that is, one more than it is at most min. In at most k turns:
unfoldable pub merged_in : ℕ → ℕ → ℕ → ℕ → List ℕ → List ℕ
merged_in low step cells zero l = l
merged_in low step cells (suc k) l =
    elim (ltb cells (length l)) [
      | false ↦ l
      | true ↦ elim (leb (best_of low step l (length l - 1)).depth low) [
        | true ↦ l
        | false ↦ merged_in low step cells k (normalise (joined l (best_of low step l (length l - 1))))
      ]
    ]

-- Each turn shortens the list, so that as many turns as it is long are enough.
abbrev pub merged : ℕ → ℕ → ℕ → List ℕ → List ℕ
merged low step cells l = merged_in low step cells (length l) l

-- All of it but for the last step: a normal list.
unfoldable pub merged_covering : ℕ → ℕ → ℕ → ℕ → List ℕ → List ℕ
merged_covering low top step cells l = merged low step cells (normalise (map (lifted low top step) l))

-- Then denormalise.
unfoldable pub fast_covering : ℕ → ℕ → ℕ → ℕ → List ℕ → List ℕ
fast_covering low top step cells l = denormalise low step (merged_covering low top step cells l)

-- ---- start cells

-- The kept cells, the last kept first, and one more: skipped if the last kept cell contains it; else that one is dropped if the new one contains it.
-- Earlier ones stay, even if contained.
unfoldable pub keep_start : List ℕ → ℕ → List ℕ
keep_start [] c = c ∷ []
keep_start (t ∷ s) c = elim (holds t c) [ true ↦ t ∷ s | false ↦ elim (holds c t) [ true ↦ c ∷ s | false ↦ c ∷ t ∷ s ] ]

-- Each cell goes to its adjusted level, in order.
unfoldable pub keep_starts : ℕ → ℕ → List ℕ → List ℕ → List ℕ
keep_starts low step s [] = s
keep_starts low step s (id ∷ l) = keep_starts low step (keep_start s (parent_at id (adjusted low step (level_of id)))) l

unfoldable pub adjusted_cells : ℕ → ℕ → List ℕ → List ℕ
adjusted_cells low step l = rev (keep_starts low step [] l)

-- Fast covering of the bound with min 0, the same max, mod 1 and the smaller of max_cells and 4; then, if level_mod is above 1, the adjustment.
unfoldable pub starts_of : ℕ → ℕ → ℕ → ℕ → List ℕ → List ℕ
starts_of low top step cells bound =
    elim (ltb 1 step) [
      | true ↦ adjusted_cells low step (fast_covering 0 top 1 (min cells 4) bound)
      | false ↦ fast_covering 0 top 1 (min cells 4) bound
    ]
