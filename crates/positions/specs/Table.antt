-- Four levels of the way back at once (paper 02, c), and the words in which the code has them.
use Rattle.std.specs.Prelude.{ℕ, ◌+◌, ◌*◌, ◌^◌}
use Rattle.turns.specs.Table.{by_row}
use Rattle.positions.specs.Positions.{Digits, step_of, ij_of}

-- four levels down, by the lowest four bits of i and of j, the highest first
unfoldable pub four_steps : Digits → ℕ → ℕ → Digits
four_steps d i j = step_of (step_of (step_of (step_of d (ij_of i j 3)) (ij_of i j 2)) (ij_of i j 1)) (ij_of i j 0)

-- the table of `turns` turned round: the positions that lead from a row to a place in four levels, and the row that is come to
unfoldable pub steps_from : ℕ → ℕ → ℕ → Digits
steps_from row i j = four_steps (record { n = 0; row = row }) i j

-- the entries of all four rows for four bits of i and of j, in one word: eight times the next row, and the positions, thirty-two bits each
unfoldable pub steps_word : ℕ → ℕ → ℕ
steps_word i j = 2 ^ 32 * by_row 8 (λ row. 8 * (steps_from row i j).row) + by_row 8 (λ row. (steps_from row i j).n)
