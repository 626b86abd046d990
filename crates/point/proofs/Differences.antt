-- The sign of a difference is the order of its two terms: what the format holds lies on one grid, so that no difference but 0 is rounded to 0. Assumes nothing.
use mathlib.Core.Path.{◌≡◌, refl, sym, ap, ap₂, ◌∙◌, subst}
use mathlib.Core.Bool.{Bool, true, false, cond, and-eq-true_iff}
use Prim.Native.Nat.{ℕ, zero, suc, ◌+◌, ◌-◌, ◌*◌, ◌^◌, ◌≤◌, ◌<◌}
use native.Mathlib.Nat.{add-mul, mul_comm, mul_assoc, mul_right_comm, mul-one, one-mul, mul-pos, zero-mul}
use native.Mathlib.Omega.{arith}
use lib.IntN.{ℤ}
use lib.Dec.{T, ltb, eqb, ltb→lt}
use lib.Pow.{pow_pos}
use lib.Ieee.{Float, nan, inf, fin, Format, binary64, prec, emax, low, up, down, size, units, odd, round, sum, add, sub, neg, below, lt, eq, fits, of_bits}
use lib.Ieee.Fits.{up_pos, down_pos}
use lib.Ieee.Order.{round_mono}
use lib.Ieee.Positive.{positive, above, above_of_le, first_pos}
use borrow.Author.Tests.{ltb-true, ltb-false, lt-ltb, le-ltb, eqb-true}
use Rattle.root.proofs.Closest.{grid, fits_parts}
use Rattle.point.specs.Floats.{◌⊖◌, zero_f}
use Rattle.point.proofs.Numbers.{Number, nought, round_zero}
use Rattle.point.proofs.Laws.{never, either, sub_mul, zero_of}

-- ---- above zero

above_lt : (x : Float) → T (above x) → lt zero_f x ≡ true
unfolding lt of_bits
above_lt nan h = absurd h
above_lt (inf true) h = absurd h
above_lt (inf false) h = refl
above_lt (fin true m e) h = absurd h
above_lt (fin false m e) h = lt-ltb (0 * down e) (m * up e * 1) (rw (zero-mul (down e), mul-one (m * up e)) (mul-pos (ltb→lt 0 m h) (up_pos e)))

-- what is at least the smallest value above 0 stays above 0, and what has a minus sign is not above it
least : T (positive (round binary64 false 1 (2 ^ 1074)))
unfolding round units odd size
least = tt

round_above : (a c : ℕ) → 0 < c → c ≤ a * 2 ^ 1074 → lt zero_f (round binary64 false a c) ≡ true
round_above a c h g =
    above_lt (round binary64 false a c)
    (above_of_le (round binary64 false 1 (2 ^ 1074)) (round binary64 false a c) least
    (round_mono binary64 1 (2 ^ 1074) a c (pow_pos 1074) h (rw (one-mul c) g)))

odd_minus : (d q k l : ℕ) → lt zero_f (odd d true q k l) ≡ false
unfolding odd lt of_bits
odd_minus d zero k l = refl
odd_minus d (suc q) k l = refl

inf_minus : lt zero_f (inf true) ≡ false
unfolding lt of_bits
inf_minus = refl

units_minus : (f : Format) (q k : ℕ) → lt zero_f (units f true q k) ≡ false
unfolding units
units_minus f q k =
    either (λ v. lt zero_f v ≡ false) (ltb (q * 2 ^ k) (2 ^ (low f + suc (emax f)))) (odd (suc (prec f)) true q k (low f)) (inf true) (odd_minus (suc (prec f)) q k (low f)) inf_minus

round_minus : (f : Format) (a b : ℕ) → lt zero_f (round f true a b) ≡ false
unfolding round
round_minus f a b = units_minus f _ _

nought_not : lt zero_f (nought false) ≡ false
unfolding lt of_bits
nought_not = refl

zero_not : (a c : ℕ) → 0 < c → a ≡ 0 → lt zero_f (round binary64 false a c) ≡ false
zero_not a c h e = rw (e, round_zero false c h) nought_not

-- ---- fractions on the grid: a / c is k / l, where 1 / l is the grid's step

abbrev OnGrid : ℕ → ℕ → ℕ → Type 0
OnGrid l a c = (k : ℕ) × (a * l ≡ k * c)

at_least : (l a c k : ℕ) → a * l ≡ k * c → 0 < a → 0 < l → c ≤ a * l
at_least l a c zero e h g = absurd (none (a * l) (mul-pos h g) (e ∙ zero-mul c))
  where
    none : (x : ℕ) → 0 < x → x ≡ 0 → ⊥
    none x h e = omega arith
at_least l a c (suc k) e h g = rw e (more k c)
  where
    more : (k c : ℕ) → c ≤ suc k * c
    more k c = omega arith

sum_grid : (l a b c : ℕ) → OnGrid l a c → OnGrid l b c → OnGrid l (a + b) c
sum_grid l a b c p q = (p.0 + q.0, add-mul a b l ∙ ap₂ ◌+◌ p.1 q.1 ∙ sym (add-mul p.0 q.0 c))

less_grid : (l a b c : ℕ) → OnGrid l a c → OnGrid l b c → OnGrid l (a - b) c
less_grid l a b c p q = (p.0 - q.0, sub_mul a b l ∙ ap₂ ◌-◌ p.1 q.1 ∙ sym (sub_mul p.0 q.0 c))

above_grid : (a c : ℕ) → 0 < c → OnGrid (2 ^ 1074) a c → 0 < a → lt zero_f (round binary64 false a c) ≡ true
above_grid a c h p g = round_above a c h (at_least (2 ^ 1074) a c p.0 p.1 g (pow_pos 1074))

-- ---- so with two sizes a / c and b / c

module _ (a b c : ℕ) (h : 0 < c) (p : OnGrid (2 ^ 1074) a c) (q : OnGrid (2 ^ 1074) b c) where
  -- a plus b
  both_plus : lt zero_f (round binary64 false (a + b) c) ≡ ltb 0 (b + a)
  both_plus = go (ltb 0 (b + a)) refl
    where
      go : (t : Bool) → ltb 0 (b + a) ≡ t → lt zero_f (round binary64 false (a + b) c) ≡ t
      go true e = above_grid (a + b) c h (sum_grid (2 ^ 1074) a b c p q) (omega (arith, ltb-true 0 (b + a) e))
      go false e = zero_not (a + b) c h (omega (arith, ltb-false 0 (b + a) e))

  -- a less b
  plus_minus : lt zero_f (cond (ltb a b) (round binary64 true (b - a) c) (round binary64 false (a - b) c)) ≡ ltb b a
  plus_minus = go (ltb a b) (ltb b a) refl refl
    where
      go : (s t : Bool) → ltb a b ≡ s → ltb b a ≡ t → lt zero_f (cond s (round binary64 true (b - a) c) (round binary64 false (a - b) c)) ≡ t
      go true true d e = absurd (omega (arith, ltb-true a b d, ltb-true b a e))
      go true false d e = round_minus binary64 (b - a) c
      go false true d e = above_grid (a - b) c h (less_grid (2 ^ 1074) a b c p q) (omega (arith, ltb-true b a e))
      go false false d e = zero_not (a - b) c h (omega (arith, ltb-false b a e))

  -- b less a, from -a plus b
  minus_plus : lt zero_f (cond (ltb a b) (round binary64 false (b - a) c) (round binary64 (ltb b a) (a - b) c)) ≡ ltb a b
  minus_plus = go (ltb a b) (ltb b a) refl refl
    where
      go : (s t : Bool) → ltb a b ≡ s → ltb b a ≡ t → lt zero_f (cond s (round binary64 false (b - a) c) (round binary64 t (a - b) c)) ≡ s
      go true t d e = above_grid (b - a) c h (less_grid (2 ^ 1074) b a c q p) (omega (arith, ltb-true a b d))
      go false true d e = round_minus binary64 (a - b) c
      go false false d e = zero_not (a - b) c h (omega (arith, ltb-false b a e))

-- the size of a value that fits, over the product of its denominator with another
first_grid : (s : Bool) (m : ℕ) (e : ℤ) (d : ℕ) → T (fits binary64 (fin s m e)) → OnGrid (2 ^ 1074) (m * up e * d) (down e * d)
first_grid s m e d h =
    let g = grid 1074 m e (fits_parts binary64 s m e h).1 in
    (m * 2 ^ g.0, mul_right_comm (m * up e) d (2 ^ 1074) ∙ ap (λ (x : ℕ). x * d) g.1 ∙ mul_assoc (m * 2 ^ g.0) (down e) d)

order_is : (s t : Bool) (m n : ℕ) (e d : ℤ) → below t (n * up d * down e) s (m * up e * down d) ≡ lt (fin t n d) (fin s m e)
unfolding lt
order_is s t m n e d = refl

-- a difference is above zero exactly where its second term is below the first
pub above_difference : (x y : Float) → Number x → Number y → lt zero_f (x ⊖ y) ≡ lt y x
unfolding sub add sum neg
above_difference nan y p q = absurd p.0
above_difference (inf s) y p q = absurd p.0
above_difference (fin s m e) nan p q = absurd q.0
above_difference (fin s m e) (inf t) p q = absurd q.0
above_difference (fin s m e) (fin t n d) p q = go s t
  where
    a : OnGrid (2 ^ 1074) (m * up e * down d) (down e * down d)
    a = first_grid s m e (down d) p.1

    b : OnGrid (2 ^ 1074) (n * up d * down e) (down e * down d)
    b = rw (mul_comm (down e) (down d)) (first_grid t n d (down e) q.1)

    c : 0 < down e * down d
    c = mul-pos (down_pos e) (down_pos d)

    go : (s t : Bool) → lt zero_f (fin s m e ⊖ fin t n d) ≡ lt (fin t n d) (fin s m e)
    go true true = minus_plus (m * up e * down d) (n * up d * down e) (down e * down d) c a b ∙ order_is true true m n e d
    go true false = round_minus binary64 (m * up e * down d + n * up d * down e) (down e * down d) ∙ order_is true false m n e d
    go false true = both_plus (m * up e * down d) (n * up d * down e) (down e * down d) c a b ∙ order_is false true m n e d
    go false false = plus_minus (m * up e * down d) (n * up d * down e) (down e * down d) c a b ∙ order_is false false m n e d

-- ---- one number, whatever the sign of its zero

size_above : (m : ℕ) (e : ℤ) → lt zero_f (fin false m e) ≡ ltb 0 (m * up e)
unfolding lt of_bits
size_above m e = rw (zero-mul (down e), mul-one (m * up e))

minus_not : (m : ℕ) (e : ℤ) → lt zero_f (fin true m e) ≡ false
unfolding lt of_bits
minus_not m e = refl

same_size : (a b c d : ℕ) → 0 < c → 0 < d → a * d ≡ b * c → ltb 0 a ≡ ltb 0 b
same_size a b c d C D h = go (ltb 0 a) (ltb 0 b) refl refl
  where
    some : 0 < a → 0 < b
    some p = first_pos b c (subst (λ (x : ℕ). 0 < x) h (mul-pos p D))

    back : 0 < b → 0 < a
    back p = first_pos a d (subst (λ (x : ℕ). 0 < x) (sym h) (mul-pos p C))

    go : (p q : Bool) → ltb 0 a ≡ p → ltb 0 b ≡ q → p ≡ q
    go true true p q = refl
    go true false p q = absurd (omega (arith, some (ltb-true 0 a p), ltb-false 0 b q))
    go false true p q = absurd (omega (arith, back (ltb-true 0 b q), ltb-false 0 a p))
    go false false p q = refl

none_above : (m : ℕ) (e : ℤ) → m * up e ≡ 0 → lt zero_f (fin false m e) ≡ false
none_above m e h = size_above m e ∙ le-ltb 0 (m * up e) (omega (arith, h))

-- of two values that are one number both are above zero, or neither
pub equal_above : (x y : Float) → eq x y ≡ true → lt zero_f x ≡ lt zero_f y
unfolding eq
equal_above nan y h = never h
equal_above (inf s) nan h = never h
equal_above (inf true) (inf true) h = refl
equal_above (inf true) (inf false) h = never h
equal_above (inf false) (inf true) h = never h
equal_above (inf false) (inf false) h = refl
equal_above (inf s) (fin t n d) h = never h
equal_above (fin s m e) nan h = never h
equal_above (fin s m e) (inf t) h = never h
equal_above (fin s m e) (fin t n d) h = go s t h
  where
    a : ℕ
    a = m * up e * down d

    b : ℕ
    b = n * up d * down e

    go : (s t : Bool) → eq (fin s m e) (fin t n d) ≡ true → lt zero_f (fin s m e) ≡ lt zero_f (fin t n d)
    go true true h = minus_not m e ∙ sym (minus_not n d)
    go false false h =
        size_above m e
        ∙ same_size (m * up e) (n * up d) (down e) (down d) (down_pos e) (down_pos d) (eqb-true a b ((and-eq-true_iff (eqb a b) true).0 h).0)
        ∙ sym (size_above n d)
    go false true h =
        none_above m e (zero_of (m * up e) (down d) (down_pos d) (eqb-true a 0 ((and-eq-true_iff (eqb a b) (eqb a 0)).0 h).1)) ∙ sym (minus_not n d)
    go true false h =
        let z : a ≡ 0 = eqb-true a 0 ((and-eq-true_iff (eqb a b) (eqb a 0)).0 h).1 in
        let w : a ≡ b = eqb-true a b ((and-eq-true_iff (eqb a b) (eqb a 0)).0 h).0 in
        minus_not m e ∙ sym (none_above n d (zero_of (n * up d) (down e) (down_pos e) (sym w ∙ z)))
