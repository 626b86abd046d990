-- The order of floats: it is transitive, and what is not below zero makes a difference no larger and a sum no smaller. Assumes nothing.
use mathlib.Core.Path.{◌≡◌, refl, sym, ap, ◌∙◌, subst}
use mathlib.Core.Bool.{Bool, true, false, ◌&&◌, ◌||◌, true≢false}
use mathlib.Core.Logic.{inl, inr}
use Prim.Native.Nat.{ℕ, ◌+◌, ◌-◌, ◌*◌, ◌≤◌, ◌<◌}
use native.Mathlib.Nat.{zero-mul, mul-pos, mul-le-mul_right, eq-or-lt_of_le}
use native.Mathlib.Omega.{arith}
use lib.IntN.{ℤ}
use lib.Dec.{T, ltb, eqb, lt→ltb, eqb→eq, ltb→lt}
use denote.Floats.{passes}
use lib.Ieee.{Float, nan, inf, fin, binary64, up, down, below, level, round, sum, add, sub, neg, lt, le, eq, fits, is_nan}
use lib.Ieee.Fits.{and_i, and_l, and_r, eq→eqb, down_pos, neg-fits}
use lib.Ieee.Order.{round_mono}
use lib.Ieee.Positive.{through}
use lib.Ieee.Scale.{finite}
use Rattle.point.specs.Floats.{◌⊕◌, ◌⊖◌}
use Rattle.point.proofs.Laws.{never, either, zero_of}
use Rattle.point.proofs.Signs.{Plus, round_plus}
use Rattle.point.proofs.Exact.{round_own}
use Rattle.point.proofs.Numbers.{Number, round_number}
use Rattle.point.proofs.Sizes.{le_cases, round_turned}

-- ---- the order of two finite values, by their signs and sizes

-- of the sizes a and b over one denominator, with the signs s and t, the first value is at most the second
abbrev pub Signed : Bool → ℕ → Bool → ℕ → Type 0
Signed false a false b = a ≤ b
Signed false a true b = (a ≡ 0) × (b ≡ 0)
Signed true a false b = Unit
Signed true a true b = b ≤ a

abbrev le_at : Bool → ℕ → Bool → ℕ → Bool
le_at s a t b = below s a t b || level s a t b

pub signed : (s : Bool) (a : ℕ) (t : Bool) (b : ℕ) → T (le_at s a t b) → Signed s a t b
signed false a false b h = le_cases a b (ltb a b) (eqb a b) (ltb→lt a b) (eqb→eq a b) h
signed false a true b h = both (eqb→eq a b) (eqb→eq a 0) h
  where
    both : (T (eqb a b) → a ≡ b) → (T (eqb a 0) → a ≡ 0) → T (eqb a b && eqb a 0) → (a ≡ 0) × (b ≡ 0)
    both f g h = let z : a ≡ 0 = g (and_r (eqb a b) (eqb a 0) h) in (z, sym (f (and_l (eqb a b) (eqb a 0) h)) ∙ z)
signed true a false b h = tt
signed true a true b h = at_least a b (ltb b a) (eqb a b) (ltb→lt b a) (eqb→eq a b) h
  where
    at_least : (a b : ℕ) (p q : Bool) → (T p → b < a) → (T q → a ≡ b) → T (p || (q && true)) → b ≤ a
    at_least a b true q f g t = let l : b < a = f tt in omega (arith, l)
    at_least a b false true f g t = let e : a ≡ b = g tt in omega (arith, e)
    at_least a b false false f g t = absurd t

or_left : (p q : Bool) → T p → T (p || q)
or_left true q h = tt
or_left false q h = absurd h

or_right : (p q : Bool) → T q → T (p || q)
or_right true q h = tt
or_right false q h = h

pub unsigned : (s : Bool) (a : ℕ) (t : Bool) (b : ℕ) → Signed s a t b → T (le_at s a t b)
unsigned false a false b h = elim (eq-or-lt_of_le h) [
  | inl e ↦ or_right (ltb a b) (eqb a b && true) (and_i (eqb a b) true (eq→eqb e) tt)
  | inr l ↦ or_left (ltb a b) (eqb a b && true) (lt→ltb a b l)
]
unsigned false a true b h = and_i (eqb a b) (eqb a 0) (eq→eqb (h.0 ∙ sym h.1)) (eq→eqb h.0)
unsigned true a false b h = let z : 0 ≤ a + b = omega arith in elim (eq-or-lt_of_le z) [
  | inl e ↦
      or_right (ltb 0 (a + b)) (eqb a b && eqb a 0)
      (and_i (eqb a b) (eqb a 0) (eq→eqb {a = a} {b = b} (omega (arith, e))) (eq→eqb {a = a} {b = 0} (omega (arith, e))))
  | inr l ↦ or_left (ltb 0 (a + b)) (eqb a b && eqb a 0) (lt→ltb 0 (a + b) l)
]
unsigned true a true b h = elim (eq-or-lt_of_le h) [
  | inl e ↦ or_right (ltb b a) (eqb a b && true) (and_i (eqb a b) true (eq→eqb (sym e)) tt)
  | inr l ↦ or_left (ltb b a) (eqb a b && true) (lt→ltb b a l)
]

le_zero : (x y z : ℕ) → 0 < y → z ≡ 0 → x * y ≤ z → x ≡ 0
le_zero x y z h e l = zero_of x y h (omega (arith, l, e))

-- the fractions x / p, y / q and z / w
trans_at : (s t r : Bool) (x y z p q w : ℕ) → 0 < p → 0 < q → 0 < w → Signed s (x * q) t (y * p) → Signed t (y * w) r (z * q)
    → Signed s (x * w) r (z * p)
trans_at false false false x y z p q w P Q W h k = through x y z p q w Q h k
trans_at false false true x y z p q w P Q W h k =
    let b : y ≡ 0 = zero_of y w W k.0 in
    let a : x ≡ 0 = le_zero x q (y * p) Q (ap (λ (i : ℕ). i * p) b ∙ zero-mul p) h in
    let c : z ≡ 0 = zero_of z q Q k.1 in
    (ap (λ (i : ℕ). i * w) a ∙ zero-mul w, ap (λ (i : ℕ). i * p) c ∙ zero-mul p)
trans_at false true false x y z p q w P Q W h k =
    let a : x * w ≡ 0 = ap (λ (i : ℕ). i * w) (zero_of x q Q h.0) ∙ zero-mul w in
    omega (arith, a)
trans_at false true true x y z p q w P Q W h k =
    let a : x ≡ 0 = zero_of x q Q h.0 in
    let b : y ≡ 0 = zero_of y p P h.1 in
    let c : z ≡ 0 = le_zero z q (y * w) Q (ap (λ (i : ℕ). i * w) b ∙ zero-mul w) k in
    (ap (λ (i : ℕ). i * w) a ∙ zero-mul w, ap (λ (i : ℕ). i * p) c ∙ zero-mul p)
trans_at true t false x y z p q w P Q W h k = tt
trans_at true false true x y z p q w P Q W h k =
    let c : z * p ≡ 0 = ap (λ (i : ℕ). i * p) (zero_of z q Q k.1) ∙ zero-mul p in
    omega (arith, c)
trans_at true true true x y z p q w P Q W h k = through z y x w q p Q k h

-- what is at most a value that is at most another is at most that one
pub le_trans : (x y z : Float) → T (le x y) → T (le y z) → T (le x z)
unfolding le lt eq
le_trans nan y z h k = absurd h
le_trans (inf true) nan z h k = absurd h
le_trans (inf true) (inf t) nan h k = absurd k
le_trans (inf true) (inf t) (inf true) h k = tt
le_trans (inf true) (inf t) (inf false) h k = tt
le_trans (inf true) (inf t) (fin r i c) h k = tt
le_trans (inf true) (fin t n d) nan h k = absurd k
le_trans (inf true) (fin t n d) (inf true) h k = tt
le_trans (inf true) (fin t n d) (inf false) h k = tt
le_trans (inf true) (fin t n d) (fin r i c) h k = tt
le_trans (inf false) nan z h k = absurd h
le_trans (inf false) (inf true) z h k = absurd h
le_trans (inf false) (inf false) z h k = k
le_trans (inf false) (fin t n d) z h k = absurd h
le_trans (fin s m e) nan z h k = absurd h
le_trans (fin s m e) (inf true) z h k = absurd h
le_trans (fin s m e) (inf false) nan h k = absurd k
le_trans (fin s m e) (inf false) (inf true) h k = absurd k
le_trans (fin s m e) (inf false) (inf false) h k = tt
le_trans (fin s m e) (inf false) (fin r i c) h k = absurd k
le_trans (fin s m e) (fin t n d) nan h k = absurd k
le_trans (fin s m e) (fin t n d) (inf true) h k = absurd k
le_trans (fin s m e) (fin t n d) (inf false) h k = tt
le_trans (fin s m e) (fin t n d) (fin r i c) h k =
    unsigned s (m * up e * down c) r (i * up c * down e)
    (trans_at s t r (m * up e) (n * up d) (i * up c) (down e) (down d) (down c) (down_pos e) (down_pos d) (down_pos c)
    (signed s (m * up e * down d) t (n * up d * down e) h) (signed t (n * up d * down c) r (i * up c * down d) k))

-- what is less than another is at most that one
pub lt_le : (x y : Float) → lt x y ≡ true → T (le x y)
unfolding le
lt_le x y h = or_left (lt x y) (eq x y) (passes _ h)

-- a finite value is at most itself
pub le_self : (x : Float) → T (finite x) → T (le x x)
unfolding le lt eq
le_self nan h = absurd h
le_self (inf s) h = absurd h
le_self (fin true m e) h = unsigned true (m * up e * down e) true (m * up e * down e) (omega arith)
le_self (fin false m e) h = unsigned false (m * up e * down e) false (m * up e * down e) (omega arith)

-- what has a minus sign is at most what has none
pub minus_le : (p q : Float) → Plus p → Plus q → is_nan p ≡ false → is_nan q ≡ false → T (le (neg p) q)
unfolding le lt eq neg is_nan
minus_le nan q p r n i = never (sym n)
minus_le (inf true) q p r n i = absurd (true≢false p)
minus_le (inf false) nan p r n i = never (sym i)
minus_le (inf false) (inf true) p r n i = tt
minus_le (inf false) (inf false) p r n i = tt
minus_le (inf false) (fin t b d) p r n i = tt
minus_le (fin true a c) q p r n i = absurd (true≢false p)
minus_le (fin false a c) nan p r n i = never (sym i)
minus_le (fin false a c) (inf true) p r n i = absurd (true≢false r)
minus_le (fin false a c) (inf false) p r n i = tt
minus_le (fin false a c) (fin true b d) p r n i = absurd (true≢false r)
minus_le (fin false a c) (fin false b d) p r n i = unsigned true (a * up c * down d) false (b * up d * down c) tt

-- with both signs turned the order is turned round
pub turned_le : (p q : Float) → Plus p → Plus q → T (le p q) → T (le (neg q) (neg p))
unfolding le lt eq neg
turned_le nan q p r h = absurd h
turned_le (inf true) q p r h = absurd (true≢false p)
turned_le (inf false) nan p r h = absurd h
turned_le (inf false) (inf true) p r h = absurd h
turned_le (inf false) (inf false) p r h = tt
turned_le (inf false) (fin t b d) p r h = absurd h
turned_le (fin true a c) q p r h = absurd (true≢false p)
turned_le (fin false a c) nan p r h = absurd h
turned_le (fin false a c) (inf true) p r h = absurd h
turned_le (fin false a c) (inf false) p r h = tt
turned_le (fin false a c) (fin true b d) p r h = absurd (true≢false r)
turned_le (fin false a c) (fin false b d) p r h =
    unsigned true (b * up d * down c) true (a * up c * down d) (signed false (a * up c * down d) false (b * up d * down c) h)

-- ---- a difference and a sum beside their first term

-- a value that fits, and a rounded fraction
own_le : (m : ℕ) (e : ℤ) (a c : ℕ) → T (fits binary64 (fin false m e)) → 0 < c → a * down e ≤ m * up e * c
    → T (le (round binary64 false a c) (fin false m e))
own_le m e a c h g l =
    subst (λ (y : Float). T (le (round binary64 false a c) y)) (round_own binary64 false m e h)
    (round_mono binary64 a c (m * up e) (down e) g (down_pos e) l)

own_ge : (m : ℕ) (e : ℤ) (a c : ℕ) → T (fits binary64 (fin false m e)) → 0 < c → m * up e * c ≤ a * down e
    → T (le (fin false m e) (round binary64 false a c))
own_ge m e a c h g l =
    subst (λ (y : Float). T (le y (round binary64 false a c))) (round_own binary64 false m e h)
    (round_mono binary64 (m * up e) (down e) a c (down_pos e) g l)

-- x / p less y / q and x / p with y / q added, over p * q, beside x / p
less_part : (x y p q : ℕ) → (x * q - y * p) * p ≤ x * (p * q)
less_part x y p q = subst (λ (i : ℕ). (x * q - y * p) * p ≤ i) same (mul-le-mul_right p less)
  where
    less : x * q - y * p ≤ x * q
    less = omega arith

    same : x * q * p ≡ x * (p * q)
    same = omega arith

more_part : (x y p q : ℕ) → x * (p * q) ≤ (x * q + y * p) * p
more_part x y p q = omega arith

-- with m * 2 ^ e a value that fits, and n * 2 ^ d the size that is taken off or added
module _ (m n : ℕ) (e d : ℤ) (h : T (fits binary64 (fin false m e))) where
  abbrev a : ℕ
  a = m * up e * down d

  abbrev b : ℕ
  b = n * up d * down e

  abbrev c : ℕ
  c = down e * down d

  some : 0 < c
  some = mul-pos (down_pos e) (down_pos d)

  less_own : T (le (round binary64 false (a - b) c) (fin false m e))
  less_own = own_le m e (a - b) c h some (less_part (m * up e) (n * up d) (down e) (down d))

  more_own : T (le (fin false m e) (round binary64 false (a + b) c))
  more_own = own_ge m e (a + b) c h some (more_part (m * up e) (n * up d) (down e) (down d))

  plus_less : T (le (fin false m e ⊖ fin false n d) (fin false m e))
  unfolding sub add sum neg is_nan
  plus_less =
      either (λ v. T (le v (fin false m e))) (ltb a b) (round binary64 true (b - a) c) (round binary64 false (a - b) c)
      (rw (round_turned binary64 (b - a) c)
      (minus_le (round binary64 false (b - a) c) (fin false m e) (round_plus binary64 (b - a) c) refl (round_number binary64 false (b - a) c) refl))
      less_own

  minus_less : T (le (fin true m e ⊖ fin false n d) (fin true m e))
  unfolding sub add sum neg
  minus_less = rw (round_turned binary64 (a + b) c) (turned_le (fin false m e) (round binary64 false (a + b) c) refl (round_plus binary64 (a + b) c) more_own)

  plus_more : T (le (fin false m e) (fin false m e ⊕ fin false n d))
  unfolding add sum
  plus_more = more_own

  minus_more : T (le (fin true m e) (fin true m e ⊕ fin false n d))
  unfolding add sum neg is_nan
  minus_more =
      either (λ v. T (le (fin true m e) v)) (ltb a b) (round binary64 false (b - a) c) (round binary64 (ltb b a) (a - b) c)
      (minus_le (fin false m e) (round binary64 false (b - a) c) refl (round_plus binary64 (b - a) c) refl (round_number binary64 false (b - a) c))
      (go (ltb b a))
    where
      go : (t : Bool) → T (le (fin true m e) (round binary64 t (a - b) c))
      go true = rw (round_turned binary64 (a - b) c) (turned_le (round binary64 false (a - b) c) (fin false m e) (round_plus binary64 (a - b) c) refl less_own)
      go false = minus_le (fin false m e) (round binary64 false (a - b) c) refl (round_plus binary64 (a - b) c) refl (round_number binary64 false (a - b) c)

-- what is not below zero makes a difference no larger than its first term
pub difference_le : (x y : Float) → Number x → T (finite y) → Plus y → T (le (x ⊖ y) x)
unfolding neg
difference_le nan y p q r = absurd p.0
difference_le (inf s) y p q r = absurd p.0
difference_le (fin s m e) nan p q r = absurd q
difference_le (fin s m e) (inf t) p q r = absurd q
difference_le (fin s m e) (fin true n d) p q r = absurd (true≢false r)
difference_le (fin true m e) (fin false n d) p q r = minus_less m n e d (neg-fits binary64 (fin true m e) p.1)
difference_le (fin false m e) (fin false n d) p q r = plus_less m n e d p.1

-- and a sum no smaller
pub sum_ge : (x y : Float) → Number x → T (finite y) → Plus y → T (le x (x ⊕ y))
unfolding neg
sum_ge nan y p q r = absurd p.0
sum_ge (inf s) y p q r = absurd p.0
sum_ge (fin s m e) nan p q r = absurd q
sum_ge (fin s m e) (inf t) p q r = absurd q
sum_ge (fin s m e) (fin true n d) p q r = absurd (true≢false r)
sum_ge (fin true m e) (fin false n d) p q r = minus_more m n e d (neg-fits binary64 (fin true m e) p.1)
sum_ge (fin false m e) (fin false n d) p q r = plus_more m n e d p.1
