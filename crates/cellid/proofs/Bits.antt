-- Numbers by their binary digits, and truth values: what the laws of cell ids rest on. Nothing here speaks of cells.
use Rattle.std.proofs.Common.{◌≡◌, ℕ, zero, suc, ◌+◌, ◌-◌, ◌*◌, ◌/◌, ◌%◌, ◌^◌, ◌<◌, ◌≤◌, min, max, Bool, true, false, ◌&&◌, ◌||◌, ◌⊎◌, List, length, get_or, sym, refl, ap, ◌∙◌, ap₂, inl, inr, ⊎_elim, le_of_suc-le-suc, not-suc-le-zero, add-zero, mod-eq_of_lt, zero-lt-suc, mul_assoc, mul_comm, add-mul, lt_of_mul-lt-mul_right, eq-or-lt_of_le, one-mul, pow-suc, mul-one, arith, pow_pos, pow-add}
use mathlib.Core.Bool.{beq, and-eq-true_iff}
use native.Mathlib.Nat.{mul-sub, div-div-eq-div-mul, div-eq_of_lt, lt-div-mul-add}
use lib.Arith.{bin_ind}
use lib.ListN.{get_or-eq_default}
use lib.Bits.{bit_and, bit_or, bit_xor, differ, xor_step, xor_shr, xor_self, shifted_half, shifted_even, and_step, and_block, and_high, or_block, or_step, or_zero_r, and_comm}
use lib.Count.{count_trailing_zeros}
use lib.Pow.{pow-lt, shr_mod}

-- ---- truth values

pub bool_iff : (a b : Bool) → (a ≡ true → b ≡ true) → (b ≡ true → a ≡ true) → a ≡ b
bool_iff true true f g = refl
bool_iff true false f g = sym (f refl)
bool_iff false true f g = g refl
bool_iff false false f g = refl

pub or_true : (a b : Bool) → (a || b) ≡ true → (a ≡ true) ⊎ (b ≡ true)
or_true true b e = inl refl
or_true false b e = inr e

pub true_or : (a b : Bool) → (a ≡ true) ⊎ (b ≡ true) → (a || b) ≡ true
true_or true b h = refl
true_or false b h = ⊎_elim (λ e. let z : ◌≡◌ {A = ℕ} 0 1 = cc in absurd (omega arith)) (λ e. e) h

pub or_false : (a b : Bool) → (a || b) ≡ false → (a ≡ false) × (b ≡ false)
or_false true b e = let z : true ≡ false = e in (z, cc)
or_false false b e = (refl, e)

pub no_true : (b : Bool) → (b ≡ true → ⊥) → b ≡ false
no_true true f = absurd (f refl)
no_true false f = refl

pub same_bool : (a b : Bool) → beq a b ≡ true → a ≡ b
same_bool true true e = refl
same_bool true false e = sym e
same_bool false true e = e
same_bool false false e = refl

-- a test that is computed at each number below n
unfoldable pub every : ℕ → (ℕ → Bool) → Bool
every zero f = true
every (suc n) f = f n && every n f

pub every_at : (n : ℕ) (f : ℕ → Bool) → every n f ≡ true → (k : ℕ) → k < n → f k ≡ true
unfolding every
every_at zero f e k h = absurd (not-suc-le-zero h)
every_at (suc n) f e k h =
    let r = (and-eq-true_iff (f n) (every n f)).0 e in
    ⊎_elim (λ (q : k ≡ n). rw q r.0) (λ (q : k < n). every_at n f r.1 k q) (eq-or-lt_of_le (le_of_suc-le-suc h))

-- what the last arm of a `match` is left with: n is none of the numbers below k, so it is k where it is at most k
abbrev pub NoneOf : ℕ → ℕ → Type 0
NoneOf n zero = Unit
NoneOf n (suc k) = NoneOf n k × (n ≡ k → ⊥)

none_of : (n k : ℕ) → NoneOf n k → k ≤ n
none_of n zero r = omega arith
none_of n (suc k) (r, h) = next (none_of n k r)
  where
    next : k ≤ n → suc k ≤ n
    next l = omega (arith, l, h)

pub last_arm : (n k : ℕ) → n ≤ k → NoneOf n k → n ≡ k
last_arm n k h r = let l = none_of n k r in omega arith

-- or it names what stands for all others
pub last_of : {A : Type 0} (l : List A) (z : A) (n : ℕ) → NoneOf n (length l) → z ≡ get_or l n z
last_of l z n r = sym (get_or-eq_default l z (none_of n (length l) r))

-- ---- products and powers

-- products of two variables, laid out for `omega`
pub odd_mul : (p C : ℕ) → (2 * p + 1) * C ≡ 2 * (p * C) + C
odd_mul p C = add-mul (2 * p) 1 C ∙ ap₂ (λ (x y : ℕ). x + y) (mul_assoc 2 p C) (one-mul C)

pub sub_mul : (a b c : ℕ) → (a - b) * c ≡ a * c - b * c
sub_mul a b c = mul_comm (a - b) c ∙ mul-sub c a b ∙ ap₂ (λ (x y : ℕ). x - y) (mul_comm c a) (mul_comm c b)

-- one level more, four times as many
pub pow_pair : (n m : ℕ) → m ≡ n + 1 → 2 ^ (2 * m) ≡ 4 * 2 ^ (2 * n)
pow_pair n m h = let e : 2 * m ≡ 2 + 2 * n = omega arith in ap (λ (k : ℕ). 2 ^ k) e ∙ pow-add 2 2 (2 * n)

-- 1 << t at 64 bits
pub one_shl : (t : ℕ) → t < 64 → (1 * 2 ^ t) % 2 ^ 64 ≡ 2 ^ t
one_shl t h = rw (one-mul (2 ^ t)) (mod-eq_of_lt (pow-lt h))

-- ---- an odd number times a power of two

-- the lowest set bit of an odd number times 2 ^ t stands at t
pub zeros_of : (k t m : ℕ) → t < k → count_trailing_zeros k ((2 * m + 1) * 2 ^ t) ≡ t
unfolding count_trailing_zeros
zeros_of zero t m h = omega arith
zeros_of (suc k) zero m h = rw (mul-one (2 * m + 1)) (let e : (2 * m + 1) % 2 ≡ 1 = omega arith in rw e)
zeros_of (suc k) (suc t) m h = rw (shifted_even (2 * m + 1) t, shifted_half (2 * m + 1) t) (ap suc (zeros_of k t m (omega arith)))

-- every number but 0 is an odd number times a power of two
abbrev pub OddPart : ℕ → ℕ → Type 0
OddPart k x = (m : ℕ) × (t : ℕ) × (t < k) × (x ≡ (2 * m + 1) * 2 ^ t)

odd_step : (k x : ℕ) → 0 < x → (0 < x / 2 → OddPart k (x / 2)) → (d : ℕ) → x % 2 ≡ d → OddPart (suc k) x
odd_step k x p ih zero e =
    let h = ih (omega arith) in
    (h.0, suc h.1, omega (arith, h.2), omega (arith, h.3, pow-suc 2 h.1, mul_assoc (2 * h.0 + 1) (2 ^ h.1) 2, ap (λ (z : ℕ). (2 * h.0 + 1) * z) (pow-suc 2 h.1)))
odd_step k x p ih (suc zero) e = (x / 2, 0, zero-lt-suc k, omega (arith, mul-one (2 * (x / 2) + 1)))
odd_step k x p ih (suc (suc d)) e = absurd (omega arith)

pub odd_part : (k x : ℕ) → 0 < x → x < 2 ^ k → OddPart k x
odd_part zero x p h = absurd (omega arith)
odd_part (suc k) x p h = odd_step k x p (λ q. odd_part k (x / 2) q (omega (arith, pow-suc 2 k))) (x % 2) refl

-- ---- masks

-- a number and its complement share no digit
pub comp_and : (k a : ℕ) → a < 2 ^ k → bit_and a ((2 ^ k - 1) - a) ≡ 0
comp_and zero a h = let e : a ≡ 0 = omega arith in rw e
comp_and (suc k) a h =
    let half : ((2 ^ suc k - 1) - a) / 2 ≡ (2 ^ k - 1) - a / 2 = omega (arith, pow-suc 2 k) in
    let digit : min (a % 2) (((2 ^ suc k - 1) - a) % 2) ≡ 0 = omega (arith, pow-suc 2 k) in
    and_step a ((2 ^ suc k - 1) - a) ∙ rw (half, digit, comp_and k (a / 2) (omega (arith, pow-suc 2 k)))

-- x & -x is the lowest set bit
and_neg_odd : (j m : ℕ) → 2 * m + 1 < 2 ^ suc j → bit_and (2 * m + 1) (2 ^ suc j - (2 * m + 1)) ≡ 1
and_neg_odd j m h =
    let half : (2 ^ suc j - (2 * m + 1)) / 2 ≡ (2 ^ j - 1) - m = omega (arith, pow-suc 2 j) in
    let half' : (2 * m + 1) / 2 ≡ m = omega arith in
    let digit : min ((2 * m + 1) % 2) ((2 ^ suc j - (2 * m + 1)) % 2) ≡ 1 = omega (arith, pow-suc 2 j) in
    and_step (2 * m + 1) (2 ^ suc j - (2 * m + 1)) ∙ rw (half, half', digit, comp_and j m (omega (arith, pow-suc 2 j)))

pub and_neg : (j t m : ℕ) → (2 * m + 1) * 2 ^ t < 2 ^ (suc j + t)
    → bit_and ((2 * m + 1) * 2 ^ t) (2 ^ (suc j + t) - (2 * m + 1) * 2 ^ t) ≡ 2 ^ t
and_neg j t m h =
    let e : 2 ^ (suc j + t) - (2 * m + 1) * 2 ^ t ≡ (2 ^ suc j - (2 * m + 1)) * 2 ^ t = rw (sub_mul, pow-add 2 (suc j) t) in
    let b : 2 * m + 1 < 2 ^ suc j = lt_of_mul-lt-mul_right (2 ^ t) (rw (← pow-add 2 (suc j) t) h) in
    rw (e, ← add-zero ((2 * m + 1) * 2 ^ t), ← add-zero ((2 ^ suc j - (2 * m + 1)) * 2 ^ t), and_block t (2 * m + 1) (2 ^ suc j - (2 * m + 1)) 0 0 (pow_pos t) (pow_pos t), and_neg_odd j m b)
    (add-zero (1 * 2 ^ t) ∙ one-mul (2 ^ t))

-- (x & -2^t) | 2^t clears the digits below t and sets t
or_one : (a : ℕ) → bit_or a 1 ≡ a / 2 * 2 + 1
or_one a =
    let m : max (a % 2) 1 ≡ 1 = omega arith in
    or_step a 1 ∙ rw (or_zero_r (a / 2), m)

pub or_bit : (a t : ℕ) → bit_or (a * 2 ^ t) (2 ^ t) ≡ (a / 2 * 2 + 1) * 2 ^ t
or_bit a t =
    ap₂ bit_or (sym (add-zero (a * 2 ^ t))) (sym (add-zero (1 * 2 ^ t) ∙ one-mul (2 ^ t)))
    ∙ or_block t a 1 0 0 (pow_pos t) (pow_pos t) ∙ rw (or_one a, add-zero ((a / 2 * 2 + 1) * 2 ^ t))

pub parent_bits : (j t x : ℕ) → x < 2 ^ (j + t)
    → bit_or (bit_and x (2 ^ (j + t) - 2 ^ t)) (2 ^ t) ≡ (x / (2 * 2 ^ t)) * (2 * 2 ^ t) + 2 ^ t
parent_bits j t x h =
    let q : x / 2 ^ t / 2 ≡ x / (2 * 2 ^ t) = div-div-eq-div-mul x (2 ^ t) 2 ∙ ap (λ (n : ℕ). x / n) (mul_comm (2 ^ t) 2) in
    rw (and_high x j t, shr_mod j t h, or_bit (x / 2 ^ t) t, q, add-mul, mul_assoc, one-mul)

-- one bit of a mask
pub and_power : (m t : ℕ) → bit_and (2 ^ t) m ≡ (m / 2 ^ t % 2) * 2 ^ t
and_power m t =
    let e : 2 ^ t ≡ 2 ^ (1 + t) - 2 ^ t = omega (arith, pow-add 2 1 t) in
    and_comm (2 ^ t) m ∙ ap (bit_and m) e ∙ and_high m 1 t

-- ---- where two numbers differ

differ_zero : (x y : ℕ) → differ x y ≡ 0 → x ≡ y
differ_zero zero y e = sym e
differ_zero (suc x) zero e = e
differ_zero (suc x) (suc y) e = ap suc (differ_zero x y e)

xor_zero : (a b : ℕ) → bit_xor a b ≡ 0 → a ≡ b
xor_zero = bin_ind (λ (n : ℕ). (b : ℕ) → bit_xor n b ≡ 0 → n ≡ b) (λ b e. sym e)
    (λ n ih b e. let s : bit_xor (n / 2) (b / 2) * 2 + differ (n % 2) (b % 2) ≡ 0 = sym (xor_step n b) ∙ e in
    let d : n % 2 ≡ b % 2 = differ_zero (n % 2) (b % 2) (omega arith) in
    let h : n / 2 ≡ b / 2 = ih (b / 2) (omega arith) in
    omega arith)

-- the digits from k on agree exactly where the exclusive or is below 2 ^ k
pub same_above : (a b k : ℕ) → bit_xor a b < 2 ^ k → a / 2 ^ k ≡ b / 2 ^ k
same_above a b k h = xor_zero (a / 2 ^ k) (b / 2 ^ k) (sym (xor_shr a b k) ∙ div-eq_of_lt h)

pub xor_below : (a b k : ℕ) → a / 2 ^ k ≡ b / 2 ^ k → bit_xor a b < 2 ^ k
xor_below a b k e =
    let z : bit_xor a b / 2 ^ k ≡ 0 = xor_shr a b k ∙ rw (e, xor_self (b / 2 ^ k)) in
    omega (arith, lt-div-mul-add {a = bit_xor a b} {b = 2 ^ k} (pow_pos k), ap (λ (n : ℕ). n * 2 ^ k) z)
