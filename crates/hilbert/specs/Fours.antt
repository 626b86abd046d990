-- What the two loops take of an id or a place, four levels at a time: private contracts.
use Rattle.std.specs.Prelude.{ℕ, ◌*◌, ◌/◌, ◌%◌, ◌^◌}

-- the k-th four positions from the right, of the thirty-two that are two positions 0 and those of the id
abbrev pub pos_four : ℕ → ℕ → ℕ
pos_four id k = id / 2 ^ 1 % 2 ^ 60 / 2 ^ (8 * k) % 2 ^ 8

-- the k-th four bits from the right
abbrev pub bits_four : ℕ → ℕ → ℕ
bits_four x k = x / 2 ^ (4 * k) % 2 ^ 4
