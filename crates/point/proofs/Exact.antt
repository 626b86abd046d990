-- Facts on floats: a value that the format holds is what rounding its own fraction gives, so a sum with zero and a product with -1 are exact; a square
-- has no sign. Assumes nothing.
use mathlib.Core.Path.{◌≡◌, refl, sym, ap, ◌∙◌}
use mathlib.Core.Bool.{Bool, true, false, true≢false}
use Prim.Native.Nat.{ℕ, suc, ◌+◌, ◌*◌, ◌/◌, ◌^◌, ◌<◌}
use native.Mathlib.Nat.{add_comm, mul-one, zero-mul, mul_right_comm, lt_of_mul-lt-mul_right, mul-lt-mul_of_pos_right}
use native.Mathlib.Omega.{arith}
use lib.IntN.{ℤ}
use lib.Dec.{T}
use lib.Pow.{pow-add, pow_pos}
use lib.Ieee.{Float, nan, inf, fin, Format, binary64, emax, low, up, down, round, sum, add, mul, neg, fits, to_bits, of_bits}
use lib.Ieee.Exact.{HasValue, round_exact}
use lib.Ieee.Fits.{down_pos, round-fits, neg-fits}
use lib.Ieee.Nearest.{div_same}
use lib.Ieee.Bits.{of_bits-to_bits}
use Rattle.root.proofs.Closest.{grid, fits_parts}
use Rattle.point.specs.Floats.{◌⊕◌, ◌⊗◌, zero_f, one_f}
use Rattle.point.proofs.Signs.{Plus}

-- ---- a value that the format holds is what rounding its own fraction gives

-- two values that fit are one, if their signs and sizes are
same_bits : (f : Format) (s : Bool) (m n : ℕ) (e d : ℤ) → m * up e * down d ≡ n * up d * down e → to_bits f (fin s m e) ≡ to_bits f (fin s n d)
unfolding to_bits
same_bits f s m n e d h =
    let z : m * up e * 2 ^ low f / down e ≡ n * up d * 2 ^ low f / down d =
    div_same (m * up e * 2 ^ low f) (down e) (n * up d * 2 ^ low f) (down d) (down_pos e) (down_pos d)
    (mul_right_comm (m * up e) (2 ^ low f) (down d) ∙ ap (λ (x : ℕ). x * 2 ^ low f) h ∙ mul_right_comm (n * up d) (down e) (2 ^ low f)) in
    rw z

unique : (f : Format) (x : Float) (s : Bool) (m : ℕ) (e : ℤ) → T (fits f x) → T (fits f (fin s m e)) → HasValue x s (m * up e) (down e) → x ≡ fin s m e
unique f nan s m e p q v = absurd v
unique f (inf t) s m e p q v = absurd v
unique f (fin t n d) s m e p q v =
    sym (of_bits-to_bits f (fin t n d) p) ∙ ap (of_bits f) (ap (λ (b : Bool). to_bits f (fin b n d)) v.0 ∙ same_bits f s n m d e v.1) ∙ of_bits-to_bits f (fin s m e) q

pub round_own : (f : Format) (s : Bool) (m : ℕ) (e : ℤ) → T (fits f (fin s m e)) → round f s (m * up e) (down e) ≡ fin s m e
round_own f s m e h =
    let p = fits_parts f s m e h in
    let g = grid (low f) m e p.1 in
    let t : 2 ^ suc (emax f) * 2 ^ low f ≡ 2 ^ (low f + suc (emax f)) = sym (pow-add 2 (suc (emax f)) (low f)) ∙ ap (λ (x : ℕ). 2 ^ x) (add_comm (suc (emax f)) (low f)) in
    let a : m * up e * 2 ^ low f < 2 ^ suc (emax f) * down e * 2 ^ low f = mul-lt-mul_of_pos_right p.2 (pow_pos (low f)) in
    let b : m * 2 ^ g.0 < 2 ^ (low f + suc (emax f)) = lt_of_mul-lt-mul_right (down e) (rw (← g.1, ← t, mul_right_comm (2 ^ suc (emax f)) (2 ^ low f) (down e)) a) in
    unique f (round f s (m * up e) (down e)) s m e (round-fits f s (m * up e) (down e)) h (round_exact f s (m * up e) (down e) m g.0 (down_pos e) p.0 b g.1)

-- ---- what is exact, and what has no sign

pub plus_zero : (x : Float) → Plus x → T (fits binary64 x) → x ⊕ zero_f ≡ x
unfolding add sum of_bits
plus_zero nan p h = refl
plus_zero (inf s) p h = refl
plus_zero (fin true m e) p h = absurd (true≢false p)
plus_zero (fin false m e) p h =
    let a : m * up e * 1 + 0 * 1 * down e ≡ m * up e = omega (arith, mul-one (m * up e), zero-mul (down e)) in
    rw (a, mul-one (down e)) (round_own binary64 false m e h)

pub square_neg : (x : Float) → neg x ⊗ neg x ≡ x ⊗ x
unfolding mul neg
square_neg nan = refl
square_neg (inf true) = refl
square_neg (inf false) = refl
square_neg (fin true m e) = refl
square_neg (fin false m e) = refl

pub times_minus : (x : Float) → T (fits binary64 x) → x ⊗ neg one_f ≡ neg x
unfolding mul neg of_bits
times_minus nan h = refl
times_minus (inf true) h = refl
times_minus (inf false) h = refl
times_minus (fin true m e) h = rw (mul-one (m * up e), mul-one (down e)) (round_own binary64 false m e (neg-fits binary64 (fin true m e) h))
times_minus (fin false m e) h = rw (mul-one (m * up e), mul-one (down e)) (round_own binary64 true m e (neg-fits binary64 (fin false m e) h))
