-- The short way of the root, from 1 to below 4: which patterns these numbers have, and what m, the digits with the exponent made even, says of the number. Assumes nothing.
use Rattle.std.proofs.Common.{◌≡◌, ℕ, suc, ◌+◌, ◌-◌, ◌*◌, ◌/◌, ◌%◌, ◌^◌, ◌<◌, ◌≤◌, Bool, true, false, ◌&&◌, ◌||◌, eqb, ltb, sym, refl, ap, ◌∙◌, subst, true≢false, le_trans, le_of_eq, lt_of_lt_of_le, le_of_suc-le-suc, mul-le-mul_right, mul_assoc, div-lt_iff_lt-mul, mul-lt-mul_of_pos_right, lt_of_not-le, le-div_iff_mul-le, mul_right_comm, arith, lit≤, pow_pos, pow-add, ltb-true, le-ltb, eqb-true}
use native.Mathlib.Decide.{dec_lt}
use lib.Bits.{bit_and, and_mask}
use lib.Ieee.{Float, nan, inf, fin, binary64, up, down, size, lt, le, eq, is_nan, of_bits, to_bits}
use lib.Ieee.Fits.{down_pos}
use Rattle.root.specs.Root.{root, rooted, Near}
use Rattle.root.proofs.Whole.{size_exact}
use Rattle.root.proofs.Patterns.{normal, root_odd}
use Rattle.root.proofs.Parts.{q_hi, together}
use Rattle.root.proofs.Signs.{written_back}
use Rattle.root.proofs.Kept.{plus_zero}

-- ---- the pattern of n smallest values that have 53 digits and k more, as `to_bits` computes it
abbrev pattern : ℕ → ℕ
pattern n = 0 + (size n - 53) * 2 ^ 52 + n / 2 ^ (size n - 53)

in_row : (n k : ℕ) → 2 ^ 52 * 2 ^ k ≤ n → n < 2 ^ 53 * 2 ^ k → ((k + 1) * 2 ^ 52 ≤ pattern n) × (pattern n < (k + 2) * 2 ^ 52)
in_row n k lo hi =
    let z : size n - 53 ≡ k = drop (size n) k (size_exact (52 + k) n (le_trans (le_of_eq (pow-add 2 52 k)) lo) (lt_of_lt_of_le hi (le_of_eq (sym (ap (λ (x : ℕ). 2 ^ x) (later k) ∙ pow-add 2 53 k))))) in
    subst (λ (j : ℕ). ((k + 1) * 2 ^ 52 ≤ 0 + j * 2 ^ 52 + n / 2 ^ j) × (0 + j * 2 ^ 52 + n / 2 ^ j < (k + 2) * 2 ^ 52)) (sym z)
    (join k (n / 2 ^ k) ((le-div_iff_mul-le (pow_pos k)).1 lo) ((div-lt_iff_lt-mul (pow_pos k)).1 hi))
  where
    later : (k : ℕ) → suc (52 + k) ≡ 53 + k
    later k = omega arith

    drop : (s k : ℕ) → s ≡ suc (52 + k) → s - 53 ≡ k
    drop s k e = omega arith

    join : (k q : ℕ) → 2 ^ 52 ≤ q → q < 2 ^ 53 → ((k + 1) * 2 ^ 52 ≤ 0 + k * 2 ^ 52 + q) × (0 + k * 2 ^ 52 + q < (k + 2) * 2 ^ 52)
    join k q lo hi = omega arith

abbrev pub InRange : ℕ → Type 0
InRange b = (0x3ff0_0000_0000_0000 ≤ b) × (b < 0x4010_0000_0000_0000)

two_rows : (n : ℕ) → 2 ^ 1074 ≤ n → n < 2 ^ 1076 → InRange (pattern n)
two_rows n lo hi = go (dec_lt n (2 ^ 1075))
  where
    lower : (p : ℕ) → (1023 * 2 ^ 52 ≤ p) × (p < 1024 * 2 ^ 52) → InRange p
    lower p h = omega arith

    upper : (p : ℕ) → (1024 * 2 ^ 52 ≤ p) × (p < 1025 * 2 ^ 52) → InRange p
    upper p h = omega arith

    go : Dec (n < 2 ^ 1075) → InRange (pattern n)
    go (yes h) = lower (pattern n) (in_row n 1022 lo h)
    go (no h) = upper (pattern n) (in_row n 1023 (le_of_suc-le-suc (lt_of_not-le h)) hi)

-- x is a / d, with a for m * up e and d for `down e`: the tests, as they compute at 1 and at 4
at_least_one : (a d : ℕ) → (ltb (1 * 1 * d) (a * 1) || (eqb (1 * 1 * d) (a * 1) && true)) ≡ true → d ≤ a
at_least_one a d h = go (ltb (1 * 1 * d) (a * 1)) (eqb (1 * 1 * d) (a * 1)) (ltb-true (1 * 1 * d) (a * 1)) (eqb-true (1 * 1 * d) (a * 1)) h
  where
    go : (b c : Bool) → (b ≡ true → 1 * 1 * d < a * 1) → (c ≡ true → 1 * 1 * d ≡ a * 1) → (b || (c && true)) ≡ true → d ≤ a
    go true c k l h = let u = k refl in omega arith
    go false true k l h = let u = l refl in omega arith
    go false false k l h = absurd (true≢false (sym h))

minus : (b : Bool) (d : ℕ) → 0 < d → (b && eqb (1 * 1 * d) 0) ≡ true → ⊥
minus true d D h = omega (arith, eqb-true (1 * 1 * d) 0 h)
minus false d D h = true≢false (sym h)

under_four : (a d : ℕ) → ltb (a * 1) (1 * 4 * d) ≡ true → a < 4 * d
under_four a d h = omega (arith, ltb-true (a * 1) (1 * 4 * d) h)

units_of : (a d p : ℕ) → 0 < d → 0 < p → d ≤ a → a < 4 * d → (p ≤ a * p / d) × (a * p / d < 4 * p)
units_of a d p D P lo hi = (
  (le-div_iff_mul-le D).1 (le_trans (le_of_eq (turn p d)) (mul-le-mul_right p lo)),
  (div-lt_iff_lt-mul D).1 (lt_of_lt_of_le (mul-lt-mul_of_pos_right hi P) (le_of_eq (mul_right_comm 4 d p))),
)
  where
    turn : (p d : ℕ) → p * d ≡ d * p
    turn p d = omega arith

pub in_range : (x : Float) → le (of_bits binary64 0x3ff0_0000_0000_0000) x ≡ true → lt x (of_bits binary64 0x4010_0000_0000_0000) ≡ true → InRange (to_bits binary64 x)
unfolding le lt eq of_bits to_bits
in_range nan h k = absurd (true≢false (sym h))
in_range (inf true) h k = absurd (true≢false (sym h))
in_range (inf false) h k = absurd (true≢false (sym k))
in_range (fin true m e) h k = absurd (minus (eqb (1 * 1 * down e) (m * up e * 1)) (down e) (down_pos e) h)
in_range (fin false m e) h k =
    let u = units_of (m * up e) (down e) (2 ^ 1074) (down_pos e) (pow_pos 1074) (at_least_one (m * up e) (down e) h) (under_four (m * up e) (down e) k) in
    two_rows (m * up e * 2 ^ 1074 / down e) u.0 u.1

-- such a number is no NaN and not below zero
pub sound : (x : Float) → le (of_bits binary64 0x3ff0_0000_0000_0000) x ≡ true → (is_nan x ≡ false) × (lt x plus_zero ≡ false)
unfolding le lt eq of_bits is_nan
sound nan h = absurd (true≢false (sym h))
sound (inf true) h = absurd (true≢false (sym h))
sound (inf false) h = (refl, refl)
sound (fin true m e) h = absurd (minus (eqb (1 * 1 * down e) (m * up e * 1)) (down e) (down_pos e) h)
sound (fin false m e) h = (refl, le-ltb (m * up e * 1) (0 * down e) (omega arith))

-- ---- the digits of such a pattern b: m * 2 ^ 52 * 4 ^ 1022 is the square of √x, in smallest values
pub record Digits (b m : ℕ) : Type 0 where
  pub lo : 2 ^ 52 ≤ m
  pub hi : m + 2 ≤ 2 ^ 54
  pub number : m * 2 ^ 52 * (2 ^ 1022 * 2 ^ 1022) ≡ (2 ^ 52 + b % 2 ^ 52) * 2 ^ (b / 2 ^ 52 - 1) * 2 ^ 1074

-- x is 1, or 2 where the exponent is odd
number_of : (sig x m i j : ℕ) → m ≡ sig * x → i ≡ j → x * 2 ^ 52 * (2 ^ 1022 * 2 ^ 1022) ≡ 2 ^ j * 2 ^ 1074 → m * 2 ^ 52 * (2 ^ 1022 * 2 ^ 1022) ≡ sig * 2 ^ i * 2 ^ 1074
number_of sig x m i j M I e =
    ap (λ (y : ℕ). y * 2 ^ 52 * (2 ^ 1022 * 2 ^ 1022)) M
    ∙ regroup sig x (2 ^ 52) (2 ^ 1022 * 2 ^ 1022)
    ∙ ap (λ (y : ℕ). sig * y) e
    ∙ sym (ap (λ (y : ℕ). sig * 2 ^ y * 2 ^ 1074) I ∙ mul_assoc sig (2 ^ j) (2 ^ 1074))
  where
    regroup : (s x p r : ℕ) → s * x * p * r ≡ s * (x * p * r)
    regroup s x p r = omega arith

pub digits : (b : ℕ) → InRange b → Digits b ((2 ^ 52 + bit_and b 0xf_ffff_ffff_ffff) * 2 ^ (b / 2 ^ 62) % 2 ^ 64)
digits b h = rw (and_mask b 52) (go (dec_lt b (2 ^ 62)))
  where
    go : Dec (b < 2 ^ 62) → Digits b ((2 ^ 52 + b % 2 ^ 52) * 2 ^ (b / 2 ^ 62) % 2 ^ 64)
    go (yes k) =
        let e : b / 2 ^ 62 ≡ 0 = omega arith in
        rw e (record { lo = omega arith; hi = omega arith; number = number_of (2 ^ 52 + b % 2 ^ 52) 1 _ (b / 2 ^ 52 - 1) 1022 (omega arith) (omega arith) refl })
    go (no k) =
        let e : b / 2 ^ 62 ≡ 1 = omega arith in
        rw e (record { lo = omega arith; hi = omega arith; number = number_of (2 ^ 52 + b % 2 ^ 52) 2 _ (b / 2 ^ 52 - 1) 1023 (omega arith) (omega arith) refl })

-- the pattern put together from the nearest whole number
pub answer : (b m q : ℕ) → InRange b → Digits b m → Near (m * 2 ^ 52) q → 0x3fe0_0000_0000_0000 + q ≡ to_bits binary64 (root binary64 (of_bits binary64 b))
answer b m q h d near =
    let below = q_hi m q d.hi near in
    written_back (0x3fe0_0000_0000_0000 + q) (root binary64 (of_bits binary64 b)) (omega arith)
    (together m 1022 q d.lo d.hi (lit≤ tt) near
    ∙ ap (rooted binary64) d.number
    ∙ sym (ap (root binary64) (normal b (omega arith) (omega arith)) ∙ root_odd binary64 (2 ^ 52 + b % 2 ^ 52) (b / 2 ^ 52 - 1) (omega arith)))
