-- Small laws that the others use; how the float without its sign stands to the sign tests; when a float is finite.
use mathlib.Core.Path.{◌≡◌, refl, sym, ap, ap₂, ◌∙◌, subst}
use mathlib.Core.Bool.{Bool, true, false, cond, ◌&&◌, and-eq-true_iff}
use Prim.Native.Nat.{ℕ, zero, suc, ◌+◌, ◌-◌, ◌*◌, ◌^◌, ◌≤◌, ◌<◌}
use native.Mathlib.Nat.{mul_comm, mul-sub, mul-pos, zero-mul, eq_of_mul-eq-mul_right}
use native.Mathlib.Omega.{arith}
use lib.Pow.{pow_pos}
use lib.IntN.{ℤ, pos, negsuc}
use lib.Dec.{T}
use lib.Ieee.{Float, nan, inf, fin, binary64, lt, eq, neg, fits, of_bits, up, down}
use lib.Ieee.Fits.{up_pos}
use lib.Ieee.Scale.{finite}
use borrow.Author.Tests.{ltb-true, ltb-false, eqb-true}
use Rattle.std.specs.Float.{float_with_sign}
use Rattle.point.specs.Floats.{zero_f, abs_of}

pub never : {A : Type 0} → false ≡ true → A
never h = absurd (subst T (sym h) tt)

-- what holds of both holds of the one that is picked
pub either : (P : Float → Type 0) (b : Bool) (x y : Float) → P x → P y → P (cond b x y)
either P true x y p q = p
either P false x y p q = q

pub sub_mul : (a b c : ℕ) → (a - b) * c ≡ a * c - b * c
sub_mul a b c = mul_comm (a - b) c ∙ mul-sub c a b ∙ ap₂ ◌-◌ (mul_comm c a) (mul_comm c b)

pub zero_of : (x y : ℕ) → 0 < y → x * y ≡ 0 → x ≡ 0
zero_of x y h e = eq_of_mul-eq-mul_right y h x 0 (e ∙ sym (zero-mul y))

-- ---- the float without its sign

-- std's definition and the one here are one
pub one_abs : (x : Float) → float_with_sign false x ≡ abs_of x
unfolding abs_of float_with_sign
one_abs nan = refl
one_abs (inf s) = refl
one_abs (fin s m e) = refl

pub abs_below : (x : Float) → lt x zero_f ≡ true → neg x ≡ abs_of x
unfolding lt neg abs_of of_bits
abs_below nan h = never h
abs_below (inf true) h = refl
abs_below (inf false) h = never h
abs_below (fin true m e) h = refl
abs_below (fin false m e) h = let l : m * up e * 1 < 0 * up (pos 0) * down e = ltb-true _ _ h in absurd (omega (arith, l))

-- zero is written in one way only
one_zero : (e : ℤ) → fits binary64 (fin false zero e) ≡ true → e ≡ pos 0
unfolding fits
one_zero (pos zero) h = refl
one_zero (pos (suc k)) h = let l : 2 ^ suc k * 1 ≡ 1 = eqb-true _ _ h in absurd (omega (arith, l, pow_pos k))
one_zero (negsuc k) h = let l : 1 * 2 ^ suc k ≡ 1 = eqb-true _ _ h in absurd (omega (arith, l, pow_pos k))

pub abs_zero : (x : Float) → fits binary64 x ≡ true → eq x zero_f ≡ true → zero_f ≡ abs_of x
unfolding fits eq abs_of of_bits
abs_zero nan f h = never h
abs_zero (inf s) f h = never h
abs_zero (fin s zero e) f h = ap (fin false zero) (sym (one_zero e f))
abs_zero (fin s (suc m) e) f h =
    let z : suc m * up e * 1 ≡ 0 * up (pos 0) * down e = eqb-true _ _ ((and-eq-true_iff _ _).0 h).0 in
    absurd (omega (arith, z, mul-pos {m = suc m} {n = up e} (omega arith) (up_pos e)))

pub abs_above : (x : Float) → lt x zero_f ≡ false → eq x zero_f ≡ false → x ≡ abs_of x
unfolding lt eq abs_of of_bits
abs_above nan h g = refl
abs_above (inf true) h g = never (sym h)
abs_above (inf false) h g = refl
abs_above (fin false m e) h g = refl
abs_above (fin true m e) h g =
    let l : m * up e * 1 + 0 * up (pos 0) * down e ≤ 0 = ltb-false _ _ h in
    let z : m * up e * 1 ≡ 0 = omega (arith, l) in
    let y : 0 * up (pos 0) * down e ≡ 0 = omega arith in
    never (sym g ∙ rw (z, y))

-- ---- finite is between the infinities

pub finite_is : (x : Float) → (lt (inf true) x && lt x (inf false)) ≡ finite x
unfolding lt
finite_is nan = refl
finite_is (inf true) = refl
finite_is (inf false) = refl
finite_is (fin s m e) = refl
