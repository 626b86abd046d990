-- Sizes of floats: what lies within a whole number of zero is finite, and sums, products and rounded fractions stay within the sum, the product and the bound
-- of what they are made from. Assumes nothing.
use mathlib.Core.Path.{◌≡◌, refl, sym, ap, ◌∙◌, subst}
use mathlib.Core.Bool.{Bool, true, false, beq, cond, ◌&&◌, ◌||◌, true≢false}
use Prim.Native.Nat.{ℕ, zero, suc, ◌+◌, ◌-◌, ◌*◌, ◌^◌, ◌≤◌, ◌<◌}
use native.Mathlib.Nat.{le_trans, mul-one, mul_right_comm, mul-pos, mul-le-mul, mul-le-mul_right, le_of_mul-le-mul_right, mul-mul-mul_comm}
use native.Mathlib.Omega.{arith}
use lib.Dec.{T, ltb, eqb, ltb→lt, eqb→eq}
use lib.Ieee.{Float, nan, inf, fin, Format, binary64, prec, emax, low, up, down, unlike, units, odd, round, sum, add, sub, mul, neg, lt, le, eq, fits}
use lib.Ieee.Fits.{down_pos}
use lib.Ieee.Exact.{HasValue}
use lib.Ieee.Back.{round_whole}
use lib.Ieee.Order.{round_mono}
use lib.Ieee.Scale.{finite}
use Rattle.point.specs.Floats.{◌⊕◌, ◌⊖◌, ◌⊗◌}
use Rattle.point.proofs.Laws.{either}
use Rattle.point.proofs.Signs.{Plus, round_plus}
use Rattle.point.proofs.Numbers.{Number}

-- x is finite, and at most b from zero
abbrev pub Within : ℕ → Float → Type 0
Within b nan = ⊥
Within b (inf s) = ⊥
Within b (fin s m e) = m * up e ≤ b * down e

pub within_finite : (b : ℕ) (x : Float) → Within b x → T (finite x)
within_finite b nan h = absurd h
within_finite b (inf s) h = absurd h
within_finite b (fin s m e) h = tt

pub within_more : (b c : ℕ) (x : Float) → b ≤ c → Within b x → Within c x
within_more b c nan l h = h
within_more b c (inf s) l h = h
within_more b c (fin s m e) l h = le_trans h (mul-le-mul_right (down e) l)

-- what is within a bound and fits is a finite value of the format
pub within_number : (b : ℕ) (x : Float) → Within b x → T (fits binary64 x) → Number x
within_number b x h f = (within_finite b x h, f)

-- ---- rounded fractions

odd_turned : (d q k l : ℕ) → odd d true q k l ≡ neg (odd d false q k l)
unfolding odd neg
odd_turned d zero k l = refl
odd_turned d (suc q) k l = refl

either_turned : (b : Bool) (x y v w : Float) → x ≡ neg v → y ≡ neg w → cond b x y ≡ neg (cond b v w)
either_turned true x y v w p q = p
either_turned false x y v w p q = q

inf_turned : inf true ≡ neg (inf false)
unfolding neg
inf_turned = refl

units_turned : (f : Format) (q k : ℕ) → units f true q k ≡ neg (units f false q k)
unfolding units
units_turned f q k =
    either_turned (ltb (q * 2 ^ k) (2 ^ (low f + suc (emax f)))) (odd (suc (prec f)) true q k (low f)) (inf true) (odd (suc (prec f)) false q k (low f)) (inf false)
    (odd_turned (suc (prec f)) q k (low f)) inf_turned

pub round_turned : (f : Format) (a b : ℕ) → round f true a b ≡ neg (round f false a b)
unfolding round
round_turned f a b = units_turned f _ _

within_turned : (b : ℕ) (x : Float) → Within b x → Within b (neg x)
unfolding neg
within_turned b nan h = h
within_turned b (inf s) h = h
within_turned b (fin s m e) h = h

pub le_cases : (a b : ℕ) (p q : Bool) → (T p → a < b) → (T q → a ≡ b) → T (p || (q && true)) → a ≤ b
le_cases a b true q f g t = let l : a < b = f tt in omega (arith, l)
le_cases a b false true f g t = let e : a ≡ b = g tt in omega (arith, e)
le_cases a b false false f g t = absurd t

-- what is at most a value of the size b
pub le_within : (b : ℕ) (x y : Float) → Plus x → T (le x y) → HasValue y false b 1 → Within b x
unfolding le lt eq
le_within b nan y p h v = absurd h
le_within b (inf true) y p h v = absurd (true≢false p)
le_within b (inf false) nan p h v = absurd v
le_within b (inf false) (inf t) p h v = absurd v
le_within b (inf false) (fin t n d) p h v = absurd h
le_within b (fin true m e) y p h v = absurd (true≢false p)
le_within b (fin false m e) nan p h v = absurd v
le_within b (fin false m e) (inf t) p h v = absurd v
le_within b (fin false m e) (fin true n d) p h v = absurd (true≢false v.0)
le_within b (fin false m e) (fin false n d) p h v =
    le_of_mul-le-mul_right
    (subst (λ (x : ℕ). m * up e * down d ≤ x) (ap (λ (x : ℕ). x * down e) (sym (mul-one (n * up d)) ∙ v.1) ∙ mul_right_comm b (down d) (down e))
    (le_cases (m * up e * down d) (n * up d * down e) (ltb (m * up e * down d) (n * up d * down e)) (eqb (m * up e * down d) (n * up d * down e))
    (ltb→lt (m * up e * down d) (n * up d * down e)) (eqb→eq (m * up e * down d) (n * up d * down e)) h))
    (down_pos d)

-- a fraction that is at most b is rounded to what is within b
pub round_within : (b : ℕ) (s : Bool) (a c : ℕ) → b ≤ 2 ^ 53 → 0 < c → a ≤ b * c → Within b (round binary64 s a c)
round_within b s a c h g l = go s
  where
    plus : Within b (round binary64 false a c)
    plus =
        le_within b (round binary64 false a c) (round binary64 false b 1) (round_plus binary64 a c) (round_mono binary64 a c b 1 g (omega arith) (rw (mul-one a) l))
        (round_whole binary64 false b h)

    go : (s : Bool) → Within b (round binary64 s a c)
    go true = rw (round_turned binary64 a c) (within_turned b (round binary64 false a c) plus)
    go false = plus

-- ---- sums and products

sum_within : (k : ℕ) (s t : Bool) (a b c : ℕ) → k ≤ 2 ^ 53 → 0 < c → a + b ≤ k * c → Within k (sum binary64 s a t b c)
unfolding sum
sum_within k s t a b c h g l =
    either (Within k) (beq s t) (round binary64 s (a + b) c) (cond (ltb a b) (round binary64 t (b - a) c) (round binary64 (s && ltb b a) (a - b) c))
    (round_within k s (a + b) c h g l)
    (either (Within k) (ltb a b) (round binary64 t (b - a) c) (round binary64 (s && ltb b a) (a - b) c)
    (round_within k t (b - a) c h g (omega (arith, l)))
    (round_within k (s && ltb b a) (a - b) c h g (omega (arith, l))))

joined : (a b p q c d : ℕ) → p ≤ a * c → q ≤ b * d → p * d + q * c ≤ (a + b) * (c * d)
joined a b p q c d h g = omega (arith, mul-le-mul_right d h, mul-le-mul_right c g)

-- a sum is within the sum of its terms' bounds, and so is a difference
add_within : (a b : ℕ) (x y : Float) → a + b ≤ 2 ^ 53 → Within a x → Within b y → Within (a + b) (x ⊕ y)
unfolding add
add_within a b nan y k h g = absurd h
add_within a b (inf s) y k h g = absurd h
add_within a b (fin s m e) nan k h g = absurd g
add_within a b (fin s m e) (inf t) k h g = absurd g
add_within a b (fin s m e) (fin t n d) k h g =
    sum_within (a + b) s t (m * up e * down d) (n * up d * down e) (down e * down d) k (mul-pos (down_pos e) (down_pos d))
    (joined a b (m * up e) (n * up d) (down e) (down d) h g)

pub sub_within : (a b : ℕ) (x y : Float) → a + b ≤ 2 ^ 53 → Within a x → Within b y → Within (a + b) (x ⊖ y)
unfolding sub
sub_within a b x y k h g = add_within a b x (neg y) k h (within_turned b y g)

-- a product is within the product of its factors' bounds
pub mul_within : (a b : ℕ) (x y : Float) → a * b ≤ 2 ^ 53 → Within a x → Within b y → Within (a * b) (x ⊗ y)
unfolding mul
mul_within a b nan y k h g = absurd h
mul_within a b (inf s) y k h g = absurd h
mul_within a b (fin s m e) nan k h g = absurd g
mul_within a b (fin s m e) (inf t) k h g = absurd g
mul_within a b (fin s m e) (fin t n d) k h g =
    round_within (a * b) (unlike s t) (m * up e * (n * up d)) (down e * down d) k (mul-pos (down_pos e) (down_pos d))
    (subst (λ (x : ℕ). m * up e * (n * up d) ≤ x) (mul-mul-mul_comm a (down e) b (down d)) (mul-le-mul h g))
