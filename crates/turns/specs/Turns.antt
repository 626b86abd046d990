-- The Hilbert curve one level down (paper 01, "Cell ids").
use Rattle.std.specs.Prelude.{ℕ, ◌+◌, ◌*◌, ◌/◌, ◌%◌, List, [], ◌∷◌, get_or}
use Rattle.std.specs.Int.Bits.{bit_xor}

-- "the Hilbert order is four rows of four positions"
abbrev pub pos_to_ij : List (List ℕ)
pos_to_ij = (0 ∷ 1 ∷ 3 ∷ 2 ∷ []) ∷ (0 ∷ 2 ∷ 3 ∷ 1 ∷ []) ∷ (3 ∷ 2 ∷ 0 ∷ 1 ∷ []) ∷ (3 ∷ 1 ∷ 0 ∷ 2 ∷ []) ∷ []

-- the quarter, 0 to 3, that stands at a position of a row: "in each entry the higher bit belongs to i, the lower to j"
unfoldable pub ij_at : ℕ → ℕ → ℕ
ij_at row pos = get_or (get_or pos_to_ij row []) pos 0

-- "the orientation change by position is 1, 0, 0, 3, joined by exclusive or"
unfoldable pub row_at : ℕ → ℕ → ℕ
row_at row pos = bit_xor row (get_or (1 ∷ 0 ∷ 0 ∷ 3 ∷ []) pos 0)

-- where a walk down the curve stands: a place in the grid of a level, and the row that orders the four cells beneath
pub record Walk : Type 0 where
  pub i : ℕ
  pub j : ℕ
  pub row : ℕ

-- one level down: to the quarter at a position of the row
unfoldable pub turn_of : Walk → ℕ → Walk
turn_of w pos = record { i = 2 * w.i + ij_at w.row pos / 2; j = 2 * w.j + ij_at w.row pos % 2; row = row_at w.row pos }
