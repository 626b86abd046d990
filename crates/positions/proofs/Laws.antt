-- Laws of one level of the way back and of four, what a row finds in a word of the table, and how the way goes on by it.
use mathlib.Core.Path.{◌≡◌, refl, ap, ◌∙◌}
use Prim.Native.Nat.{ℕ, ◌+◌, ◌*◌, ◌/◌, ◌%◌, ◌^◌, ◌<◌}
use native.Mathlib.Omega.{arith}
use lib.Bits.{bit_and, and_mask, and_high}
use lib.Dec.{ltb}
use borrow.Author.Tests.{ltb-true}
use Rattle.cellid.proofs.Laws.{every}
use Rattle.turns.proofs.Words.{by_row_lt, in_word}
use Rattle.turns.proofs.Laws.{table, row_lt}
use Rattle.positions.specs.Positions.{index_in, pos_of, Digits, step_of}
use Rattle.positions.specs.Table.{four_steps, steps_from, steps_word}

pub pos_lt : (row ij : ℕ) → row < 4 → ij < 4 → pos_of row ij < 4
unfolding pos_of index_in every
pos_lt row ij h g = ltb-true _ _ (table (λ r q. ltb (pos_of r q) 4) refl row ij h g)

-- ---- four steps

-- digits below N, and one of the four rows
pub record Below (N : ℕ) (d : Digits) : Type 0 where
  pub n : d.n < N
  pub row : d.row < 4

pub step_below : (N ij : ℕ) (d : Digits) → ij < 4 → Below N d → Below (4 * N) (step_of d ij)
unfolding step_of
step_below N ij d h b =
    let e = pos_lt d.row ij b.row h in
    record { n = omega (arith, b.n); row = row_lt d.row (pos_of d.row ij) b.row e }

pub four_below : (N i j : ℕ) (d : Digits) → Below N d → Below (4 * (4 * (4 * (4 * N)))) (four_steps d i j)
unfolding four_steps
four_below N i j d b =
    step_below _ _ _ (omega arith) (step_below _ _ _ (omega arith) (step_below _ _ _ (omega arith) (step_below N _ d (omega arith) b)))

-- from where the way stands: four positions more, as from no digits
steps_from_lem : (d : Digits) (i j : ℕ) → four_steps d i j ≡ record { n = 256 * d.n + (steps_from d.row i j).n; row = (steps_from d.row i j).row }
unfolding four_steps steps_from step_of
steps_from_lem d i j = ap (λ (x : ℕ). record { n = x; row = (steps_from d.row i j).row }) (places d.n _ _ _ _)
  where
    places : (x a b c e : ℕ) → 4 * (4 * (4 * (4 * x + a) + b) + c) + e ≡ 256 * x + (4 * (4 * (4 * (4 * 0 + a) + b) + c) + e)
    places x a b c e = omega arith

-- ---- a word of the table

steps_below : (row i j : ℕ) → row < 4 → Below 256 (steps_from row i j)
unfolding steps_from
steps_below row i j h = four_below 1 i j (record { n = 0; row = row }) (record { n = omega arith; row = h })

groups : (a b : ℕ) → a < 2 ^ 32 → b < 2 ^ 32 → let x = 2 ^ 32 * a + b in (x / 2 ^ 32 % 2 ^ 32 ≡ a) × (x / 2 ^ 0 % 2 ^ 32 ≡ b)
groups a b h g = (omega arith, omega arith)

-- what a row finds in the word: four positions, and eight times the row to which the steps lead
steps_read : (row i j : ℕ) → row < 4
    → (bit_and (steps_word i j / 2 ^ (8 * row)) 255 ≡ (steps_from row i j).n) × (bit_and (steps_word i j / 2 ^ (8 * row) / 2 ^ 32) 24 ≡ 8 * (steps_from row i j).row)
unfolding steps_word
steps_read row i j h =
    let br : (r : ℕ) → r < 4 → 8 * (steps_from r i j).row < 2 ^ 8 = λ r l. omega (arith, (steps_below r i j l).row) in
    let bn : (r : ℕ) → r < 4 → (steps_from r i j).n < 2 ^ 8 = λ r l. (steps_below r i j l).n in
    let g = groups _ _ (by_row_lt 8 _ br) (by_row_lt 8 _ bn) in
    let r = in_word (steps_word i j) 32 8 (λ r. 8 * (steps_from r i j).row) row h br g.0 in
    let n = in_word (steps_word i j) 0 8 (λ r. (steps_from r i j).n) row h bn g.1 in
    (and_mask (steps_word i j / 2 ^ (8 * row)) 8 ∙ omega (arith, n), and_high (steps_word i j / 2 ^ (8 * row) / 2 ^ 32) 2 3 ∙ omega (arith, r, (steps_below row i j h).row))

-- ---- the way in two words: its positions, and eight times its row
pub record PackedDigits (d : Digits) (n row : ℕ) : Type 0 where
  pub places : n ≡ d.n
  pub rows : row ≡ 8 * d.row

-- it goes on by the word of its four bits of i and of j, shifted to its row
pub steps_next : (i j word n row : ℕ) (d : Digits) → d.row < 4 → PackedDigits d n row → word ≡ steps_word i j
    → PackedDigits (four_steps d i j) (256 * n + bit_and (word / 2 ^ row) 255) (bit_and (word / 2 ^ row / 2 ^ 32) 24)
steps_next i j word n row d h p f =
    let e = steps_read d.row i j h in
    rw (f, p.rows, p.places, steps_from_lem d i j) (record { places = ap (λ (x : ℕ). 256 * d.n + x) e.0; rows = e.1 })
