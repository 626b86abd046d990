-- Bits of numbers that stand side by side in a word, and what one row of four finds there.
use mathlib.Core.Path.{◌≡◌, sym, ap, ◌∙◌}
use Prim.Native.Nat.{ℕ, zero, suc, ◌+◌, ◌-◌, ◌*◌, ◌/◌, ◌%◌, ◌^◌, ◌≤◌, ◌<◌}
use native.Mathlib.Nat.{div-one, mod-eq_of_lt, mul-le-mul_left, mul-suc, add_comm}
use native.Mathlib.Omega.{arith}
use lib.Arith.{digits_lt}
use lib.Pow.{shr-shr, field, mod-mod-pow, high, low, pow-add}
use Rattle.turns.specs.Table.{by_row}

-- bits of a part of a number are the number's
pub bits_of : (x s N t b : ℕ) → t + b ≤ N → x / 2 ^ s % 2 ^ N / 2 ^ t % 2 ^ b ≡ x / 2 ^ (s + t) % 2 ^ b
bits_of x s N t b h =
    let e : N ≡ (N - t - b + b) + t = omega arith in
    rw e (ap (λ (y : ℕ). y % 2 ^ b) (field (x / 2 ^ s) (N - t - b + b) t) ∙ mod-mod-pow (x / 2 ^ s / 2 ^ t) (N - t - b) b ∙ ap (λ (y : ℕ). y % 2 ^ b) (shr-shr x s t))

-- with one number more on the right
past : (x s t : ℕ) {y : ℕ} → y < 2 ^ s → (x * 2 ^ s + y) / 2 ^ (s + t) ≡ x / 2 ^ t
past x s t {y} h = sym (shr-shr (x * 2 ^ s + y) s t) ∙ ap (λ (z : ℕ). z / 2 ^ t) (high x s h)

beside_lt : (x k s : ℕ) {y : ℕ} → x < 2 ^ k → y < 2 ^ s → x * 2 ^ s + y < 2 ^ (k + s)
beside_lt x k s h g = rw (pow-add 2 k s) (digits_lt h g)

pub by_row_lt : (s : ℕ) (f : ℕ → ℕ) → ((r : ℕ) → r < 4 → f r < 2 ^ s) → by_row s f < 2 ^ (s + s + s + s)
unfolding by_row
by_row_lt s f b = beside_lt _ (s + s + s) s (beside_lt _ (s + s) s (beside_lt _ s s (b 3 (omega arith)) (b 2 (omega arith))) (b 1 (omega arith))) (b 0 (omega arith))

-- the number of a row
at_row : (s : ℕ) (f : ℕ → ℕ) (row : ℕ) → row < 4 → ((r : ℕ) → r < 4 → f r < 2 ^ s) → by_row s f / 2 ^ (s * row) % 2 ^ s ≡ f row
unfolding by_row
at_row s f zero h b = let e : s * 0 ≡ 0 = omega arith in rw (e, div-one (by_row s f)) (low _ s (b 0 h))
at_row s f (suc zero) h b = let e : s * 1 ≡ s + 0 = omega arith in rw (e, past _ s 0 (b 0 (omega arith)), div-one) (low _ s (b 1 h))
at_row s f (suc (suc zero)) h b =
    let e : s * 2 ≡ s + (s + 0) = omega arith in
    rw (e, past _ s (s + 0) (b 0 (omega arith)), past _ s 0 (b 1 (omega arith)), div-one) (low _ s (b 2 h))
at_row s f (suc (suc (suc zero))) h b =
    let e : s * 3 ≡ s + (s + (s + 0)) = omega arith in
    rw (e, past _ s (s + (s + 0)) (b 0 (omega arith)), past _ s (s + 0) (b 1 (omega arith)), past _ s 0 (b 2 (omega arith)), div-one) (mod-eq_of_lt (b 3 h))
at_row s f (suc (suc (suc (suc row)))) h b = omega (arith, h)

-- and that of a word which has the four from its bit g on, shifted to the row
pub in_word : (x g s : ℕ) (f : ℕ → ℕ) (row : ℕ) → row < 4 → ((r : ℕ) → r < 4 → f r < 2 ^ s) → x / 2 ^ g % 2 ^ (s + s + s + s) ≡ by_row s f
    → x / 2 ^ (s * row) / 2 ^ g % 2 ^ s ≡ f row
in_word x g s f row h b e =
    ap (λ (y : ℕ). y % 2 ^ s) (shr-shr x (s * row) g ∙ ap (λ (n : ℕ). x / 2 ^ n) (add_comm (s * row) g))
    ∙ sym (bits_of x g (s + s + s + s) (s * row) s (omega (arith, mul-le-mul_left s h, mul-suc s row)))
    ∙ ap (λ (y : ℕ). y / 2 ^ (s * row) % 2 ^ s) e
    ∙ at_row s f row h b
