-- What the loops count on: private contracts only, nothing here need be believed. What one look tells, a list's pairs one after another, and the largest cell
-- that can begin at a leaf.
use Rattle.std.specs.Prelude.{Bool, true, false, List, [], ◌∷◌, ℕ, ◌/◌, min, eqb, length, Result, Ok, Err}
use Rattle.std.specs.Int.Count.{count_trailing_zeros}
use Rattle.refusal.specs.declared.Refusal.{Refusal}
use Rattle.ranges.specs.Ranges.{joins, pair_before, pairs_of}

-- ---- one look: no pairs, or how many words are the answer

unfoldable pub looked : Bool → List ℕ → Result ℕ Refusal
looked good l = elim good [ false ↦ Err Refusal.NotRanges | true ↦ Ok (length l) ]

-- ---- the pair of the cells so far: a last of 0, which is no leaf, stands for no cell

unfoldable pub held : ℕ → ℕ → List ℕ
held first last = elim (eqb last 0) [ true ↦ [] | false ↦ first ∷ last ∷ [] ]

-- the next cell's first leaf is `next`: the pair is done with, unless the cell goes on with it ..
unfoldable pub closed : ℕ → ℕ → ℕ → List ℕ
closed first last next = elim (joins last next) [ true ↦ [] | false ↦ held first last ]

-- .. and the pair that the cell belongs to begins at
unfoldable pub opened : ℕ → ℕ → ℕ → ℕ
opened first last next = elim (joins last next) [ true ↦ first | false ↦ next ]

-- the pairs of the cells to come, with that of the cells so far before them
unfoldable pub pairs_left : ℕ → ℕ → List ℕ → List ℕ
pairs_left first last l = elim (eqb last 0) [ true ↦ pairs_of l | false ↦ pair_before first last (pairs_of l) ]

-- ---- cells

-- a cell of 4 ^ k leaves can begin at s for k up to this
unfoldable pub aligned : ℕ → ℕ
aligned s = min 30 (count_trailing_zeros 64 s / 2)
