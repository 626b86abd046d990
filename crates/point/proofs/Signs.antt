-- Squares, their sums and chord angles have no minus sign, so none is at most a number below zero. Assumes nothing.
use mathlib.Core.Path.{◌≡◌, refl}
use mathlib.Core.Bool.{true, false, ◌&&◌, true≢false, and-false}
use Prim.Native.Nat.{ℕ, zero, suc, ◌*◌, ◌+◌, ◌^◌, ◌<◌}
use native.Mathlib.Nat.{mul-pos}
use native.Mathlib.Omega.{arith}
use lib.Dec.{ltb, eqb}
use lib.Ieee.{Float, nan, inf, fin, Format, binary64, low, emax, prec, up, down, odd, units, round, sum, add, mul, lt, le, eq, of_bits}
use lib.Ieee.Fits.{down_pos}
use borrow.Author.Tests.{ltb-true, ne_eqb}
use Rattle.point.specs.Vector.{norm2_of, dot_of, sub_of}
use Rattle.point.specs.ChordAngle.{chord_angle, at_most4}
use Rattle.point.specs.declared.Point.{Point}
use Rattle.point.proofs.Laws.{never, either}

-- the float is no number, or its sign is plus
abbrev pub Plus : Float → Type 0
Plus nan = Unit
Plus (inf s) = s ≡ false
Plus (fin s m e) = s ≡ false

odd_plus : (d q k l : ℕ) → Plus (odd d false q k l)
unfolding odd
odd_plus d zero k l = refl
odd_plus d (suc q) k l = refl

units_plus : (f : Format) (q k : ℕ) → Plus (units f false q k)
unfolding units
units_plus f q k = either Plus (ltb (q * 2 ^ k) (2 ^ (low f + suc (emax f)))) (odd (suc (prec f)) false q k (low f)) (inf false) (odd_plus (suc (prec f)) q k (low f)) refl

pub round_plus : (f : Format) (a b : ℕ) → Plus (round f false a b)
unfolding round
round_plus f a b = units_plus f _ _

pub square_plus : (f : Format) (x : Float) → Plus (mul f x x)
unfolding mul
square_plus f nan = tt
square_plus f (inf true) = refl
square_plus f (inf false) = refl
square_plus f (fin true m e) = round_plus f _ _
square_plus f (fin false m e) = round_plus f _ _

pub add_plus : (f : Format) (x y : Float) → Plus x → Plus y → Plus (add f x y)
unfolding add sum
add_plus f nan y p q = tt
add_plus f (inf s) nan p q = tt
add_plus f (inf s) (inf t) p q = rw (p, q)
add_plus f (inf s) (fin t n d) p q = p
add_plus f (fin s m e) nan p q = tt
add_plus f (fin s m e) (inf t) p q = q
add_plus f (fin true m e) (fin t n d) p q = absurd (true≢false p)
add_plus f (fin false m e) (fin true n d) p q = absurd (true≢false q)
add_plus f (fin false m e) (fin false n d) p q = round_plus f _ _

-- ---- what is not below zero is not at most a number below zero

-- a sum of two products that is above 0, where the first has the factor 0
some : (n u v : ℕ) → ltb 0 (n * u * 1 + 0 * v) ≡ true → 0 < n * u
some n u v h = let l : 0 < n * u * 1 + 0 * v = ltb-true _ _ h in omega (arith, l)

not_both : (a b : ℕ) → 0 < b → (eqb a b && eqb a 0) ≡ false
not_both zero b h = rw (ne_eqb 0 b (λ e. omega arith))
not_both (suc a) b h = rw (ne_eqb (suc a) 0 (λ e. omega arith)) (and-false (eqb (suc a) b))

pub not_within : (x r : Float) → Plus x → lt r (of_bits binary64 0) ≡ true → le x r ≡ false
unfolding lt le eq of_bits
not_within nan r p h = refl
not_within (inf s) nan p h = refl
not_within (inf s) (inf true) p h = rw p
not_within (inf s) (inf false) p h = never h
not_within (inf s) (fin t n d) p h = rw p
not_within (fin s m e) nan p h = refl
not_within (fin s m e) (inf true) p h = refl
not_within (fin s m e) (inf false) p h = never h
not_within (fin true m e) (fin t n d) p h = absurd (true≢false p)
not_within (fin false m e) (fin false n d) p h = let l : n * up d * 1 < 0 * down d = ltb-true _ _ h in absurd (omega (arith, l))
not_within (fin false m e) (fin true n d) p h =
    not_both (m * up e * down d) (n * up d * down e) (mul-pos (some n (up d) (down d) h) (down_pos e))

-- ---- a chord angle has no minus sign

norm2_plus : (a : Point) → Plus (norm2_of a)
unfolding norm2_of dot_of
norm2_plus a = add_plus binary64 _ _ (add_plus binary64 _ _ (square_plus binary64 a.x) (square_plus binary64 a.y)) (square_plus binary64 a.z)

pub chord_plus : (a b : Point) → Plus (chord_angle a b)
unfolding chord_angle at_most4 of_bits
chord_plus a b = either Plus (lt (norm2_of (sub_of a b)) (of_bits binary64 0x4010_0000_0000_0000)) (norm2_of (sub_of a b)) (of_bits binary64 0x4010_0000_0000_0000) (norm2_plus (sub_of a b)) refl
