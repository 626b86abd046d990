-- What the functions leave in lent memory and in an output.
use Rattle.std.specs.Prelude.{true, false, Option, Some, None, List, [], ◌∷◌, ◌++◌, ℕ, zero, suc, ◌+◌, ◌-◌, length, take, drop, leb}
use Rattle.cellunion.specs.CellUnion.{normalise}

unfoldable pub zeros : ℕ → List ℕ
zeros zero = []
zeros (suc n) = 0 ∷ zeros n

-- the first n words normalised: their normal list, zeros in the words that it leaves over, and what stood from n on
unfoldable pub normalised : ℕ → List ℕ → List ℕ
normalised n m = normalise (take n m) ++ (zeros (n - length (normalise (take n m))) ++ drop n m)

-- l over d from the place `at` on
unfoldable pub laid : ℕ → List ℕ → List ℕ → List ℕ
laid at l d = take at d ++ (l ++ drop (at + length l) d)

-- l over the first places of the output d, if it has as many: the answer, and the output afterwards
unfoldable pub room_for : List ℕ → List ℕ → Option ℕ
room_for l d = elim (leb (length l) (length d)) [ true ↦ Some (length l) | false ↦ None ]

unfoldable pub laid_over : List ℕ → List ℕ → List ℕ
laid_over l d = elim (leb (length l) (length d)) [ true ↦ laid 0 l d | false ↦ d ]
