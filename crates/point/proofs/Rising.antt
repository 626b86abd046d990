-- Steps that keep an order: of values that are not below zero, a difference rises with its first term and falls as its second rises, a product rises with
-- each factor; a product with such a value rises with the other factor, whatever its sign. Assumes nothing.
use mathlib.Core.Path.{◌≡◌, refl, ap, ◌∙◌, subst}
use mathlib.Core.Bool.{Bool, true, false, cond, true≢false}
use Prim.Native.Nat.{ℕ, ◌-◌, ◌*◌, ◌≤◌, ◌<◌}
use native.Mathlib.Nat.{zero-mul, lt_irrefl, le_trans, lt_of_lt_of_le, mul-lt-mul_of_pos_right}
use native.Mathlib.Nat.{mul_comm, mul-pos, mul-le-mul, mul-le-mul_right, mul-mul-mul_comm}
use native.Mathlib.Omega.{arith}
use lib.IntN.{ℤ}
use lib.Dec.{T, ltb}
use lib.Ieee.{Float, nan, inf, fin, binary64, up, down, unlike, round, sum, add, sub, mul, neg, lt, le, eq}
use lib.Ieee.Fits.{down_pos}
use lib.Ieee.Order.{round_mono}
use lib.Ieee.Scale.{finite}
use borrow.Author.Tests.{ltb-true, ltb-false, le-ltb}
use Rattle.point.specs.Floats.{◌⊖◌, ◌⊗◌}
use Rattle.point.proofs.Laws.{sub_mul, zero_of}
use Rattle.point.proofs.Signs.{Plus, round_plus}
use Rattle.point.proofs.Numbers.{nought, round_zero, round_number}
use Rattle.point.proofs.Sizes.{round_turned}
use Rattle.point.proofs.Order.{Signed, signed, unsigned, minus_le, turned_le}

-- ---- rounded fractions with signs

noughts : T (le (nought false) (nought true))
unfolding le lt eq
noughts = tt

round_order : (s t : Bool) (a c b d : ℕ) → 0 < c → 0 < d → Signed s (a * d) t (b * c) → T (le (round binary64 s a c) (round binary64 t b d))
round_order false false a c b d C D h = round_mono binary64 a c b d C D h
round_order false true a c b d C D h = rw (zero_of a d D h.0, zero_of b c C h.1, round_zero false c C, round_zero true d D) noughts
round_order true false a c b d C D h =
    rw (round_turned binary64 a c)
    (minus_le (round binary64 false a c) (round binary64 false b d) (round_plus binary64 a c) (round_plus binary64 b d)
    (round_number binary64 false a c) (round_number binary64 false b d))
round_order true true a c b d C D h =
    rw (round_turned binary64 a c, round_turned binary64 b d)
    (turned_le (round binary64 false b d) (round binary64 false a c) (round_plus binary64 b d) (round_plus binary64 a c) (round_mono binary64 b d a c D C h))

-- ---- values that are not below zero

-- finite, with a plus sign
abbrev pub Size : Float → Type 0
Size x = T (finite x) × Plus x

pub as_fin : (x : Float) → Size x → (m : ℕ) × (e : ℤ) × (x ≡ fin false m e)
as_fin nan h = absurd h.0
as_fin (inf s) h = absurd h.0
as_fin (fin true m e) h = absurd (true≢false h.1)
as_fin (fin false m e) h = (m, e, refl)

any_cross : (s t : Bool) (m n : ℕ) (e d : ℤ) → T (le (fin s m e) (fin t n d)) → Signed s (m * up e * down d) t (n * up d * down e)
unfolding le lt eq
any_cross s t m n e d h = signed s (m * up e * down d) t (n * up d * down e) h

pub le_cross : (m n : ℕ) (e d : ℤ) → T (le (fin false m e) (fin false n d)) → m * up e * down d ≤ n * up d * down e
le_cross m n e d h = any_cross false false m n e d h

total : (m n : ℕ) (e d : ℤ) → le (fin false n d) (fin false m e) ≡ false → T (le (fin false m e) (fin false n d))
unfolding le lt eq
total m n e d h = go (ltb b a) refl
  where
    a : ℕ
    a = m * up e * down d

    b : ℕ
    b = n * up d * down e

    under : b < a → b ≤ a
    under l = omega arith

    go : (t : Bool) → ltb b a ≡ t → T (le (fin false m e) (fin false n d))
    go true l = absurd (subst T h (unsigned false b false a (under (ltb-true b a l))))
    go false l = unsigned false a false b (ltb-false b a l)

-- what another is not at most is at most that one
pub or_less : (x y : Float) → Size x → Size y → le y x ≡ false → T (le x y)
or_less x y p q h =
    let a = as_fin x p in
    let b = as_fin y q in
    rw (a.2, b.2) (total a.0 b.0 a.1 b.1 (rw (a.2, b.2) at h))

-- ---- differences

less_mul : (a b c i j k : ℕ) → a * k ≤ i * c → j * c ≤ b * k → (a - b) * k ≤ (i - j) * c
less_mul a b c i j k h g = rw (sub_mul a b k, sub_mul i j c) (go (a * k) (b * k) (i * c) (j * c) h g)
  where
    go : (p q r s : ℕ) → p ≤ r → s ≤ q → p - q ≤ r - s
    go p q r s h g = omega arith

-- a / c less b / c, and i / k less j / k
diff_order : (a b c i j k : ℕ) → 0 < c → 0 < k → a * k ≤ i * c → j * c ≤ b * k
    → T (le (cond (ltb a b) (round binary64 true (b - a) c) (round binary64 false (a - b) c))
    (cond (ltb i j) (round binary64 true (j - i) k) (round binary64 false (i - j) k)))
diff_order a b c i j k C K h g = go (ltb a b) (ltb i j) refl refl
  where
    never_both : b ≤ a → i < j → ⊥
    never_both l m = lt_irrefl (i * c) (lt_of_lt_of_le (mul-lt-mul_of_pos_right m C) (le_trans g (le_trans (mul-le-mul_right k l) h)))

    go : (s t : Bool) → ltb a b ≡ s → ltb i j ≡ t
        → T (le (cond s (round binary64 true (b - a) c) (round binary64 false (a - b) c))
        (cond t (round binary64 true (j - i) k) (round binary64 false (i - j) k)))
    go true true l m = round_order true true (b - a) c (j - i) k C K (less_mul j i k b a c g h)
    go true false l m = round_order true false (b - a) c (i - j) k C K tt
    go false true l m = absurd (never_both (ltb-false a b l) (ltb-true i j m))
    go false false l m = round_order false false (a - b) c (i - j) k C K (less_mul a b c i j k h g)

wide : (x i p w q v : ℕ) → x * w ≤ i * p → x * q * (w * v) ≤ i * v * (p * q)
wide x i p w q v h = omega (arith, mul-le-mul_right (q * v) h)

tall : (y j p w q v : ℕ) → j * q ≤ y * v → j * w * (p * q) ≤ y * p * (w * v)
tall y j p w q v h = omega (arith, mul-le-mul_right (p * w) h)

sub_fins : (m n i j : ℕ) (e d f g : ℤ) → T (le (fin false m e) (fin false i f)) → T (le (fin false j g) (fin false n d))
    → T (le (fin false m e ⊖ fin false n d) (fin false i f ⊖ fin false j g))
unfolding sub add sum neg
sub_fins m n i j e d f g h k =
    diff_order (m * up e * down d) (n * up d * down e) (down e * down d) (i * up f * down g) (j * up g * down f) (down f * down g)
    (mul-pos (down_pos e) (down_pos d)) (mul-pos (down_pos f) (down_pos g))
    (wide (m * up e) (i * up f) (down e) (down f) (down d) (down g) (le_cross m i e f h))
    (tall (n * up d) (j * up g) (down e) (down f) (down d) (down g) (le_cross j n g d k))

-- a difference rises with its first term, and as its second falls
pub sub_order : (x y v w : Float) → Size x → Size y → Size v → Size w → T (le x v) → T (le w y) → T (le (x ⊖ y) (v ⊖ w))
sub_order x y v w p q r s h k =
    let a = as_fin x p in
    let b = as_fin y q in
    let c = as_fin v r in
    let d = as_fin w s in
    rw (a.2, b.2, c.2, d.2) (sub_fins a.0 b.0 c.0 d.0 a.1 b.1 c.1 d.1 (rw (a.2, c.2) at h) (rw (b.2, d.2) at k))

sub_fins_plus : (m n : ℕ) (e d : ℤ) → T (le (fin false n d) (fin false m e)) → Plus (fin false m e ⊖ fin false n d)
unfolding sub add sum neg
sub_fins_plus m n e d h =
    rw (le-ltb (m * up e * down d) (n * up d * down e) (le_cross n m d e h))
    (round_plus binary64 (m * up e * down d - n * up d * down e) (down e * down d))

-- what is taken from something that is no smaller leaves a plus sign
pub sub_plus : (x y : Float) → Size x → Size y → T (le y x) → Plus (x ⊖ y)
sub_plus x y p q h =
    let a = as_fin x p in
    let b = as_fin y q in
    rw (a.2, b.2) (sub_fins_plus a.0 b.0 a.1 b.1 (rw (a.2, b.2) at h))

-- ---- products

mul_fins : (m n i j : ℕ) (e d f g : ℤ) → T (le (fin false m e) (fin false i f)) → T (le (fin false n d) (fin false j g))
    → T (le (fin false m e ⊗ fin false n d) (fin false i f ⊗ fin false j g))
unfolding mul
mul_fins m n i j e d f g h k =
    round_order false false (m * up e * (n * up d)) (down e * down d) (i * up f * (j * up g)) (down f * down g)
    (mul-pos (down_pos e) (down_pos d)) (mul-pos (down_pos f) (down_pos g))
    (rw (mul-mul-mul_comm (m * up e) (n * up d) (down f) (down g), mul-mul-mul_comm (i * up f) (j * up g) (down e) (down d))
    (mul-le-mul (le_cross m i e f h) (le_cross n j d g k)))

-- a product rises with each factor
pub mul_order : (x y v w : Float) → Size x → Size y → Size v → Size w → T (le x v) → T (le y w) → T (le (x ⊗ y) (v ⊗ w))
mul_order x y v w p q r s h k =
    let a = as_fin x p in
    let b = as_fin y q in
    let c = as_fin v r in
    let d = as_fin w s in
    rw (a.2, b.2, c.2, d.2) (mul_fins a.0 b.0 c.0 d.0 a.1 b.1 c.1 d.1 (rw (a.2, c.2) at h) (rw (b.2, d.2) at k))

-- and has a plus sign
pub mul_plus : (x y : Float) → Size x → Size y → Plus (x ⊗ y)
unfolding mul
mul_plus x y p q =
    let a = as_fin x p in
    let b = as_fin y q in
    rw (a.2, b.2) (round_plus binary64 (a.0 * up a.1 * (b.0 * up b.1)) (down a.1 * down b.1))

-- with a second factor of any sign: x / p beside y / q, both times k / l
scaled : (s t : Bool) (k l x p y q : ℕ) → Signed s (x * q) t (y * p) → Signed (unlike false s) (k * x * (l * q)) (unlike false t) (k * y * (l * p))
scaled false false k l x p y q h = omega (arith, mul-le-mul_right (k * l) h)
scaled false true k l x p y q h = (
  mul-mul-mul_comm k x l q ∙ ap (λ (i : ℕ). k * l * i) h.0 ∙ mul_comm (k * l) 0 ∙ zero-mul (k * l),
  mul-mul-mul_comm k y l p ∙ ap (λ (i : ℕ). k * l * i) h.1 ∙ mul_comm (k * l) 0 ∙ zero-mul (k * l),
)
scaled true false k l x p y q h = tt
scaled true true k l x p y q h = omega (arith, mul-le-mul_right (k * l) h)

factor_fins : (s t : Bool) (k m n : ℕ) (l e d : ℤ) → T (le (fin s m e) (fin t n d)) → T (le (fin false k l ⊗ fin s m e) (fin false k l ⊗ fin t n d))
unfolding mul
factor_fins s t k m n l e d h =
    round_order (unlike false s) (unlike false t) (k * up l * (m * up e)) (down l * down e) (k * up l * (n * up d)) (down l * down d)
    (mul-pos (down_pos l) (down_pos e)) (mul-pos (down_pos l) (down_pos d))
    (scaled s t (k * up l) (down l) (m * up e) (down e) (n * up d) (down d) (any_cross s t m n e d h))

-- a product with a value that is not below zero rises with the other factor
pub factor_order : (k x y : Float) → Size k → T (finite x) → T (finite y) → T (le x y) → T (le (k ⊗ x) (k ⊗ y))
factor_order k nan y p q r h = absurd q
factor_order k (inf s) y p q r h = absurd q
factor_order k (fin s m e) nan p q r h = absurd r
factor_order k (fin s m e) (inf t) p q r h = absurd r
factor_order k (fin s m e) (fin t n d) p q r h = let a = as_fin k p in rw a.2 (factor_fins s t a.0 m n a.1 e d h)
