-- The way back along the Hilbert curve, one level (paper 01, "Cell ids").
use Rattle.std.specs.Prelude.{ℕ, suc, ◌+◌, ◌*◌, ◌/◌, ◌%◌, ◌^◌, true, false, List, [], ◌∷◌, get_or, eqb}
use Rattle.turns.specs.Turns.{pos_to_ij, row_at}

-- the index of a number in a list
unfoldable pub index_in : ℕ → List ℕ → ℕ
index_in x [] = 0
index_in x (y ∷ l) = elim (eqb x y) [ true ↦ 0 | false ↦ suc (index_in x l) ]

-- the position at which a quarter stands in a row
unfoldable pub pos_of : ℕ → ℕ → ℕ
pos_of row ij = index_in ij (get_or pos_to_ij row [])

-- the quarter that the k-th bits of i and j name
abbrev pub ij_of : ℕ → ℕ → ℕ → ℕ
ij_of i j k = 2 * (i / 2 ^ k % 2) + j / 2 ^ k % 2

-- where the way back stands: the pairs of bits so far, and the row that orders the four cells beneath
pub record Digits : Type 0 where
  pub n : ℕ
  pub row : ℕ

-- one level down: one pair of bits more
unfoldable pub step_of : Digits → ℕ → Digits
step_of d ij = record { n = 4 * d.n + pos_of d.row ij; row = row_at d.row (pos_of d.row ij) }
