-- Exact steps with finite floats: quotients by 1 and -1, products with 1, -1 and 0, and sums of three of which one is a zero. Assumes nothing.
use mathlib.Core.Path.{◌≡◌, refl, sym, ap, ap₂, ◌∙◌}
use mathlib.Core.Bool.{Bool, true, false, beq, cond, ◌&&◌}
use Prim.Native.Nat.{ℕ, zero, suc, ◌+◌, ◌-◌, ◌*◌, ◌<◌, ◌≤◌}
use native.Mathlib.Nat.{add_comm, mul_comm, mul-one, one-mul, zero-mul, mul-pos}
use native.Mathlib.Omega.{arith}
use lib.IntN.{ℤ, pos}
use lib.Dec.{T, ltb}
use lib.Ieee.{Float, nan, inf, fin, Format, binary64, up, down, unlike, size, units, odd, round, sum, add, sub, mul, div, neg, eq}
use lib.Ieee.{fits, is_nan, of_bits}
use lib.Ieee.Fits.{up_pos, down_pos, neg-fits, add-fits}
use lib.Ieee.Scale.{finite, round_same}
use borrow.Author.Tests.{ltb-true, ltb-false, lt-ltb, le-ltb, eq-eqb}
use Rattle.root.proofs.Kept.{units_number}
use Rattle.point.specs.Floats.{◌⊕◌, ◌⊖◌, ◌⊗◌, ◌⊘◌, zero_f, one_f}
use Rattle.point.proofs.Exact.{round_own, times_minus}
use Rattle.point.proofs.Laws.{never, either}

-- a finite value of the format
abbrev pub Number : Float → Type 0
Number x = T (finite x) × T (fits binary64 x)

-- a zero, by its sign
abbrev pub nought : Bool → Float
nought s = fin s 0 (pos 0)

pub one_fits : T (fits binary64 one_f)
unfolding fits of_bits
one_fits = tt

-- ---- minus, quotients and products

pub neg_neg : (x : Float) → neg (neg x) ≡ x
unfolding neg
neg_neg nan = refl
neg_neg (inf true) = refl
neg_neg (inf false) = refl
neg_neg (fin true m e) = refl
neg_neg (fin false m e) = refl

pub neg_number : (x : Float) → Number x → Number (neg x)
unfolding neg
neg_number nan h = absurd h.0
neg_number (inf s) h = absurd h.0
neg_number (fin s m e) h = (tt, neg-fits binary64 (fin s m e) h.1)

-- a quotient by 1 is the value itself, and so is its opposite's by -1
pub over_one : (x : Float) → T (fits binary64 x) → x ⊘ one_f ≡ x
unfolding div of_bits
over_one nan h = refl
over_one (inf true) h = refl
over_one (inf false) h = refl
over_one (fin true m e) h = rw (mul-one (m * up e), one-mul (down e)) (round_own binary64 true m e h)
over_one (fin false m e) h = rw (mul-one (m * up e), one-mul (down e)) (round_own binary64 false m e h)

pub over_minus : (x : Float) → T (fits binary64 x) → neg x ⊘ neg one_f ≡ x
unfolding div neg of_bits
over_minus nan h = refl
over_minus (inf true) h = refl
over_minus (inf false) h = refl
over_minus (fin true m e) h = rw (mul-one (m * up e), one-mul (down e)) (round_own binary64 true m e h)
over_minus (fin false m e) h = rw (mul-one (m * up e), one-mul (down e)) (round_own binary64 false m e h)

unlike_comm : (s t : Bool) → unlike s t ≡ unlike t s
unlike_comm true true = refl
unlike_comm true false = refl
unlike_comm false true = refl
unlike_comm false false = refl

-- a product's factors can change places
times_comm : (x y : Float) → x ⊗ y ≡ y ⊗ x
unfolding mul
times_comm nan nan = refl
times_comm nan (inf t) = refl
times_comm nan (fin t n d) = refl
times_comm (inf s) nan = refl
times_comm (inf s) (inf t) = ap inf (unlike_comm s t)
times_comm (inf s) (fin t n d) = rw (unlike_comm s t)
times_comm (fin s m e) nan = refl
times_comm (fin s m e) (inf t) = rw (unlike_comm s t)
times_comm (fin s m e) (fin t n d) = rw (unlike_comm s t, mul_comm (m * up e) (n * up d), mul_comm (down e) (down d))

-- a product with 1 is the value itself, one with -1 its opposite
pub times_one : (x : Float) → T (fits binary64 x) → x ⊗ one_f ≡ x
unfolding mul of_bits
times_one nan h = refl
times_one (inf true) h = refl
times_one (inf false) h = refl
times_one (fin true m e) h = rw (mul-one (m * up e), mul-one (down e)) (round_own binary64 true m e h)
times_one (fin false m e) h = rw (mul-one (m * up e), mul-one (down e)) (round_own binary64 false m e h)

pub one_times : (x : Float) → T (fits binary64 x) → one_f ⊗ x ≡ x
one_times x h = times_comm one_f x ∙ times_one x h

pub minus_times : (x : Float) → T (fits binary64 x) → neg one_f ⊗ x ≡ neg x
minus_times x h = times_comm (neg one_f) x ∙ times_minus x h

-- a zero is rounded to itself
pub round_zero : (s : Bool) (c : ℕ) → 0 < c → round binary64 s 0 c ≡ nought s
unfolding round units odd size
round_zero s c h = round_same binary64 s 0 c 0 1 h (omega arith) (omega arith)

-- a zero times a finite value is a zero
pub nought_times : (s : Bool) (x : Float) → T (finite x) → (t : Bool) × (nought s ⊗ x ≡ nought t)
unfolding mul
nought_times s nan h = absurd h
nought_times s (inf t) h = absurd h
nought_times s (fin t m e) h = (unlike s t, rw (zero-mul (m * up e)) (round_zero (unlike s t) (1 * down e) (rw (one-mul (down e)) (down_pos e))))

pub zero_is : zero_f ≡ nought false
unfolding of_bits
zero_is = refl

pub zero_minus : zero_f ⊗ neg one_f ≡ nought true
unfolding mul of_bits neg round units odd size
zero_minus = refl

-- ---- sums

-- with unlike signs, where p and q say which of the sizes a and b is less
unlike_sums : (p q : Bool) (a b c : ℕ) → ltb a b ≡ p → ltb b a ≡ q
    → cond p (round binary64 false (b - a) c) (round binary64 q (a - b) c) ≡ cond q (round binary64 true (a - b) c) (round binary64 false (b - a) c)
unlike_sums true true a b c h g = absurd (both (ltb-true a b h) (ltb-true b a g))
  where
    both : a < b → b < a → ⊥
    both h g = omega arith
unlike_sums true false a b c h g = refl
unlike_sums false true a b c h g = refl
unlike_sums false false a b c h g = ap (λ (x : ℕ). round binary64 false x c) (none (ltb-false a b h) (ltb-false b a g))
  where
    none : b ≤ a → a ≤ b → a - b ≡ b - a
    none h g = omega arith

minus_plus : (m n : ℕ) (e d : ℤ) → fin true m e ⊕ fin false n d ≡ fin false n d ⊕ fin true m e
unfolding add sum
minus_plus m n e d =
    unlike_sums (ltb (m * up e * down d) (n * up d * down e)) (ltb (n * up d * down e) (m * up e * down d))
    (m * up e * down d) (n * up d * down e) (down e * down d) refl refl
    ∙ rw (mul_comm (down d) (down e))

-- a sum's terms can change places
pub sum_comm : (x y : Float) → x ⊕ y ≡ y ⊕ x
unfolding add sum
sum_comm nan nan = refl
sum_comm nan (inf t) = refl
sum_comm nan (fin t n d) = refl
sum_comm (inf s) nan = refl
sum_comm (inf true) (inf true) = refl
sum_comm (inf true) (inf false) = refl
sum_comm (inf false) (inf true) = refl
sum_comm (inf false) (inf false) = refl
sum_comm (inf s) (fin t n d) = refl
sum_comm (fin s m e) nan = refl
sum_comm (fin s m e) (inf t) = refl
sum_comm (fin true m e) (fin true n d) = ap₂ (round binary64 true) (add_comm (m * up e * down d) (n * up d * down e)) (mul_comm (down e) (down d))
sum_comm (fin true m e) (fin false n d) = minus_plus m n e d
sum_comm (fin false m e) (fin true n d) = sym (minus_plus n m d e)
sum_comm (fin false m e) (fin false n d) = ap₂ (round binary64 false) (add_comm (m * up e * down d) (n * up d * down e)) (mul_comm (down e) (down d))

-- a zero more changes no value but a zero
plus_nought : (s t : Bool) (m : ℕ) (e : ℤ) → T (fits binary64 (fin s (suc m) e)) → fin s (suc m) e ⊕ nought t ≡ fin s (suc m) e
unfolding add sum
plus_nought s t m e h = go s t h
  where
    some : 0 < suc m * up e * 1
    some = rw (mul-one (suc m * up e)) (mul-pos {m = suc m} {n = up e} (omega arith) (up_pos e))

    none : 0 * 1 * down e ≡ 0
    none = zero-mul (down e)

    like : suc m * up e * 1 + 0 * 1 * down e ≡ suc m * up e
    like = omega (arith, none, mul-one (suc m * up e))

    less : suc m * up e * 1 - 0 * 1 * down e ≡ suc m * up e
    less = omega (arith, none, mul-one (suc m * up e))

    yes : ltb (0 * 1 * down e) (suc m * up e * 1) ≡ true
    yes = lt-ltb (0 * 1 * down e) (suc m * up e * 1) (omega (arith, none, some))

    no : ltb (suc m * up e * 1) (0 * 1 * down e) ≡ false
    no = le-ltb (suc m * up e * 1) (0 * 1 * down e) (omega (arith, none))

    go : (s t : Bool) → T (fits binary64 (fin s (suc m) e)) → fin s (suc m) e ⊕ nought t ≡ fin s (suc m) e
    go true true h = rw (like, mul-one (down e)) (round_own binary64 true (suc m) e h)
    go true false h = rw (no, yes, less, mul-one (down e)) (round_own binary64 true (suc m) e h)
    go false true h = rw (no, less, mul-one (down e)) (round_own binary64 false (suc m) e h)
    go false false h = rw (like, mul-one (down e)) (round_own binary64 false (suc m) e h)

-- a zero is written in one way
nought_is : (s : Bool) (e : ℤ) → T (fits binary64 (fin s 0 e)) → fin s 0 e ≡ nought s
nought_is s e h = sym (round_own binary64 s 0 e h) ∙ rw (zero-mul (up e)) (round_zero s (down e) (down_pos e))

nought_sum : (s t : Bool) → nought s ⊕ nought t ≡ nought (s && t)
unfolding add sum round units odd size
nought_sum true true = refl
nought_sum true false = refl
nought_sum false true = refl
nought_sum false false = refl

noughts_same : (s t : Bool) → eq (nought s) (nought t) ≡ true
unfolding eq
noughts_same true true = refl
noughts_same true false = refl
noughts_same false true = refl
noughts_same false false = refl

number_same : (x : Float) → is_nan x ≡ false → eq x x ≡ true
unfolding eq is_nan
number_same nan h = never (sym h)
number_same (inf true) h = refl
number_same (inf false) h = refl
number_same (fin true m e) h = rw (eq-eqb (m * up e * down e) (m * up e * down e) refl)
number_same (fin false m e) h = rw (eq-eqb (m * up e * down e) (m * up e * down e) refl)

-- neither a rounded fraction nor a sum of two finite values is a NaN
pub round_number : (f : Format) (s : Bool) (a b : ℕ) → is_nan (round f s a b) ≡ false
unfolding round
round_number f s a b = units_number f s _ _

sum_number : (f : Format) (s t : Bool) (a b c : ℕ) → is_nan (sum f s a t b c) ≡ false
unfolding sum
sum_number f s t a b c =
    either (λ v. is_nan v ≡ false) (beq s t) (round f s (a + b) c) (cond (ltb a b) (round f t (b - a) c) (round f (s && ltb b a) (a - b) c))
    (round_number f s (a + b) c)
    (either (λ v. is_nan v ≡ false) (ltb a b) (round f t (b - a) c) (round f (s && ltb b a) (a - b) c) (round_number f t (b - a) c) (round_number f (s && ltb b a) (a - b) c))

add_number : (x y : Float) → T (finite x) → T (finite y) → is_nan (x ⊕ y) ≡ false
unfolding add
add_number nan y p q = absurd p
add_number (inf s) y p q = absurd p
add_number (fin s m e) nan p q = absurd q
add_number (fin s m e) (inf t) p q = absurd q
add_number (fin s m e) (fin t n d) p q = sum_number binary64 s t (m * up e * down d) (n * up d * down e) (down e * down d)

inf_plus : (s t : Bool) → inf s ⊕ nought t ≡ inf s
unfolding add
inf_plus s t = refl

-- a zero more leaves the number that it was
zero_more : (x : Float) (t : Bool) → T (fits binary64 x) → is_nan x ≡ false → eq (x ⊕ nought t) x ≡ true
unfolding is_nan
zero_more nan t h n = never (sym n)
zero_more (inf s) t h n = rw (inf_plus s t) (number_same (inf s) refl)
zero_more (fin s (suc m) e) t h n = rw (plus_nought s t m e h) (number_same (fin s (suc m) e) refl)
zero_more (fin s zero e) t h n = rw (nought_is s e h, nought_sum s t) (noughts_same (s && t) s)

-- a sum of three, of which the last, the second or the first is a zero, is the sum of the others
pub zero_last : (x y : Float) (t : Bool) → Number x → Number y → eq (x ⊕ y ⊕ nought t) (x ⊕ y) ≡ true
zero_last x y t p q = zero_more (x ⊕ y) t (add-fits binary64 x y) (add_number x y p.0 q.0)

pub zero_between : (x y : Float) (t : Bool) → Number x → Number y → eq (x ⊕ nought t ⊕ y) (x ⊕ y) ≡ true
unfolding is_nan
zero_between nan y t p q = absurd p.0
zero_between (inf s) y t p q = absurd p.0
zero_between (fin s m e) nan t p q = absurd q.0
zero_between (fin s m e) (inf r) t p q = absurd q.0
zero_between (fin s (suc m) e) (fin r n d) t p q =
    rw (plus_nought s t m e p.1) (number_same (fin s (suc m) e ⊕ fin r n d) (add_number (fin s (suc m) e) (fin r n d) tt tt))
zero_between (fin s zero e) (fin r zero d) t p q =
    rw (nought_is s e p.1, nought_is r d q.1, nought_sum s t, nought_sum s r, nought_sum (s && t) r) (noughts_same (s && t && r) (s && r))
zero_between (fin s zero e) (fin r (suc n) d) t p q =
    rw (nought_is s e p.1, nought_sum s t, sum_comm (nought (s && t)) (fin r (suc n) d), sum_comm (nought s) (fin r (suc n) d))
    (rw (plus_nought r (s && t) n d q.1, plus_nought r s n d q.1) (number_same (fin r (suc n) d) refl))

pub zero_first : (x y : Float) (t : Bool) → Number x → Number y → eq (nought t ⊕ x ⊕ y) (x ⊕ y) ≡ true
zero_first x y t p q = rw (sum_comm (nought t) x) (zero_between x y t p q)

-- a finite value less itself is 0
pub minus_self : (x : Float) → T (finite x) → x ⊖ x ≡ zero_f
unfolding sub add sum neg of_bits
minus_self nan h = absurd h
minus_self (inf s) h = absurd h
minus_self (fin s m e) h = go s
  where
    a : ℕ
    a = m * up e * down e

    no : ltb a a ≡ false
    no = le-ltb a a (omega arith)

    none : a - a ≡ 0
    none = omega arith

    go : (s : Bool) → fin s m e ⊖ fin s m e ≡ zero_f
    go true = rw (no, none) (round_zero false (down e * down e) (mul-pos (down_pos e) (down_pos e)))
    go false = rw (no, none) (round_zero false (down e * down e) (mul-pos (down_pos e) (down_pos e)))
