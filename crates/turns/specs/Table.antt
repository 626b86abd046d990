-- Four turns at once (paper 02, c), and the words in which the code has them.
use Rattle.std.specs.Prelude.{ℕ, ◌+◌, ◌*◌, ◌/◌, ◌%◌, ◌^◌}
use Rattle.turns.specs.Turns.{Walk, turn_of}

-- a number's k-th pair of bits from the right
abbrev pub pair_at : ℕ → ℕ → ℕ
pair_at n k = n / 2 ^ (2 * k) % 4

-- four levels down, by the four positions that stand in the lowest eight bits of a number, the first the highest
unfoldable pub four_turns : Walk → ℕ → Walk
four_turns w pos = turn_of (turn_of (turn_of (turn_of w (pair_at pos 3)) (pair_at pos 2)) (pair_at pos 1)) (pair_at pos 0)

-- "a computed table of 1,024 entries": where four turns lead from a row
unfoldable pub turns_from : ℕ → ℕ → Walk
turns_from row pos = four_turns (record { i = 0; j = 0; row = row }) pos

-- four numbers side by side, one for each row, s bits each, that of row 0 the lowest
unfoldable pub by_row : ℕ → (ℕ → ℕ) → ℕ
by_row s f = ((f 3 * 2 ^ s + f 2) * 2 ^ s + f 1) * 2 ^ s + f 0

-- the entries of all four rows for four positions, in one word: i, four times the next row, and j, sixteen bits each
unfoldable pub turns_word : ℕ → ℕ
turns_word pos = 2 ^ 32 * by_row 4 (λ row. (turns_from row pos).i) + 2 ^ 16 * by_row 4 (λ row. 4 * (turns_from row pos).row) + by_row 4 (λ row. (turns_from row pos).j)
