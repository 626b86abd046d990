-- Laws of one turn and of four, what a row finds in a word of the table, and how a walk goes on by it.
use mathlib.Core.Path.{◌≡◌, refl, sym, ap, ap₂, ◌∙◌}
use mathlib.Core.Bool.{Bool, true}
use Prim.Native.Nat.{ℕ, suc, ◌+◌, ◌-◌, ◌*◌, ◌/◌, ◌%◌, ◌^◌, ◌≤◌, ◌<◌}
use native.Mathlib.Nat.{pow-suc}
use native.Mathlib.Omega.{arith}
use lib.Pow.{split, pow_mono}
use lib.Bits.{bit_and, and_mask, and_high, and_block}
use lib.Dec.{ltb}
use borrow.Author.Tests.{ltb-true}
use Rattle.cellid.proofs.Laws.{every, every_at}
use Rattle.turns.specs.Turns.{ij_at, row_at, Walk, turn_of}
use Rattle.turns.specs.Table.{four_turns, turns_from, turns_word}
use Rattle.turns.proofs.Words.{by_row_lt, in_word}

-- what antt computes of each row and each place in it
pub table : (f : ℕ → ℕ → Bool) → every 4 (λ row. every 4 (f row)) ≡ true → (row k : ℕ) → row < 4 → k < 4 → f row k ≡ true
table f e row k h g = every_at 4 (f row) (every_at 4 (λ r. every 4 (f r)) e row h) k g

pub ij_lt : (row pos : ℕ) → row < 4 → pos < 4 → ij_at row pos < 4
unfolding ij_at every
ij_lt row pos h g = ltb-true _ _ (table (λ r p. ltb (ij_at r p) 4) refl row pos h g)

pub row_lt : (row pos : ℕ) → row < 4 → pos < 4 → row_at row pos < 4
unfolding row_at every
row_lt row pos h g = ltb-true _ _ (table (λ r p. ltb (row_at r p) 4) refl row pos h g)

-- ---- four turns

-- a place in the grid of 2 ^ n by 2 ^ n, and one of the four rows
pub record Within (n : ℕ) (w : Walk) : Type 0 where
  pub i : w.i < 2 ^ n
  pub j : w.j < 2 ^ n
  pub row : w.row < 4

pub turn_within : (n pos : ℕ) (w : Walk) → pos < 4 → Within n w → Within (suc n) (turn_of w pos)
unfolding turn_of
turn_within n pos w h b =
    let e = ij_lt w.row pos b.row h in
    record { i = omega (arith, b.i, pow-suc 2 n); j = omega (arith, b.j, pow-suc 2 n); row = row_lt w.row pos b.row h }

pub four_within : (n pos : ℕ) (w : Walk) → Within n w → Within (suc (suc (suc (suc n)))) (four_turns w pos)
unfolding four_turns
four_within n pos w b =
    turn_within _ _ _ (omega arith) (turn_within _ _ _ (omega arith) (turn_within _ _ _ (omega arith) (turn_within n _ w (omega arith) b)))

-- from where the walk stands: four bits more of i and of j, as from the face itself
turns_from_lem : (w : Walk) (pos : ℕ)
    → four_turns w pos ≡ record { i = 16 * w.i + (turns_from w.row pos).i; j = 16 * w.j + (turns_from w.row pos).j; row = (turns_from w.row pos).row }
unfolding four_turns turns_from turn_of
turns_from_lem w pos = ap₂ (λ (x y : ℕ). record { i = x; j = y; row = (turns_from w.row pos).row }) (bits w.i _ _ _ _) (bits w.j _ _ _ _)
  where
    bits : (x a b c d : ℕ) → 2 * (2 * (2 * (2 * x + a) + b) + c) + d ≡ 16 * x + (2 * (2 * (2 * (2 * 0 + a) + b) + c) + d)
    bits x a b c d = omega arith

-- ---- a word of the table

turns_within : (row pos : ℕ) → row < 4 → Within 4 (turns_from row pos)
unfolding turns_from
turns_within row pos h = four_within 0 pos (record { i = 0; j = 0; row = row }) (record { i = omega arith; j = omega arith; row = h })

groups : (a b c : ℕ) → a < 2 ^ 16 → b < 2 ^ 16 → c < 2 ^ 16 → let x = 2 ^ 32 * a + 2 ^ 16 * b + c in
    (x / 2 ^ 32 % 2 ^ 16 ≡ a) × (x / 2 ^ 16 % 2 ^ 16 ≡ b) × (x / 2 ^ 0 % 2 ^ 16 ≡ c)
groups a b c h g k = (omega arith, omega arith, omega arith)

-- four bits of each half
halves : (x : ℕ) → bit_and x 0xf0000000f ≡ 2 ^ 32 * (x / 2 ^ 32 % 2 ^ 4) + x / 2 ^ 0 % 2 ^ 4
halves x =
    ap (λ (y : ℕ). bit_and y 0xf0000000f) (sym (split x 32)) ∙ and_block 32 (x / 2 ^ 32) 15 (x % 2 ^ 32) 15 (omega arith) (omega arith)
    ∙ rw (and_mask (x / 2 ^ 32) 4, and_mask (x % 2 ^ 32) 4) (omega arith)

-- what a row finds in the word: four bits of i and four of j, and four times the row to which the turns lead
turns_read : (row pos : ℕ) → row < 4
    → (bit_and (turns_word pos / 2 ^ (4 * row)) 0xf0000000f ≡ 2 ^ 32 * (turns_from row pos).i + (turns_from row pos).j)
    × (bit_and (turns_word pos / 2 ^ (4 * row) / 2 ^ 16) 12 ≡ 4 * (turns_from row pos).row)
unfolding turns_word
turns_read row pos h =
    let bi : (r : ℕ) → r < 4 → (turns_from r pos).i < 2 ^ 4 = λ r l. (turns_within r pos l).i in
    let br : (r : ℕ) → r < 4 → 4 * (turns_from r pos).row < 2 ^ 4 = λ r l. omega (arith, (turns_within r pos l).row) in
    let bj : (r : ℕ) → r < 4 → (turns_from r pos).j < 2 ^ 4 = λ r l. (turns_within r pos l).j in
    let g = groups _ _ _ (by_row_lt 4 _ bi) (by_row_lt 4 _ br) (by_row_lt 4 _ bj) in
    let i = in_word (turns_word pos) 32 4 (λ r. (turns_from r pos).i) row h bi g.0 in
    let r = in_word (turns_word pos) 16 4 (λ r. 4 * (turns_from r pos).row) row h br g.1 in
    let j = in_word (turns_word pos) 0 4 (λ r. (turns_from r pos).j) row h bj g.2 in
    (halves (turns_word pos / 2 ^ (4 * row)) ∙ ap₂ (λ (x y : ℕ). 2 ^ 32 * x + y) i j, and_high (turns_word pos / 2 ^ (4 * row) / 2 ^ 16) 2 2 ∙ omega (arith, r))

-- ---- a walk in two words: i and j as the halves of one, the other four times the row
pub record PackedWalk (w : Walk) (ij row : ℕ) : Type 0 where
  pub places : ij ≡ 2 ^ 32 * w.i + w.j
  pub rows : row ≡ 4 * w.row

pub packed_fits : (n ij row : ℕ) (w : Walk) → n ≤ 32 → Within n w → PackedWalk w ij row → ij < 2 ^ 64
packed_fits n ij row w h b p = let g : 2 ^ n ≤ 2 ^ 32 = pow_mono {i = n} {j = 32} h in omega (arith, b.i, b.j, p.places)

pub packed_read : (n ij row : ℕ) (w : Walk) → n ≤ 32 → Within n w → PackedWalk w ij row → (ij / 2 ^ 32 ≡ w.i) × (bit_and ij (2 ^ 32 - 1) ≡ w.j) × (row / 2 ^ 2 ≡ w.row)
packed_read n ij row w h b p =
    let g : 2 ^ n ≤ 2 ^ 32 = pow_mono {i = n} {j = 32} h in
    (omega (arith, b.i, b.j, p.places), and_mask ij 32 ∙ omega (arith, b.i, b.j, p.places), omega (arith, p.rows))

-- it goes on by the word of its four positions, shifted to its row
pub turns_next : (pos word ij row : ℕ) (w : Walk) → w.row < 4 → PackedWalk w ij row → word ≡ turns_word pos
    → PackedWalk (four_turns w pos) (16 * ij + bit_and (word / 2 ^ row) 0xf0000000f) (bit_and (word / 2 ^ row / 2 ^ 16) 12)
turns_next pos word ij row w h p f =
    let e = turns_read w.row pos h in
    rw (f, p.rows, turns_from_lem w pos) (record { places = omega (arith, e.0, p.places); rows = e.1 })
