-- The lines of the leaves' grid: they are finite, never fall as their numbers rise, and run from -1 over 0 to 1.
use mathlib.Core.Path.{◌≡◌, refl}
use mathlib.Core.Bool.{false}
use Prim.Native.Nat.{ℕ, ◌+◌, ◌-◌, ◌*◌, ◌^◌, ◌≤◌, ◌<◌}
use native.Mathlib.Nat.{mul-pos}
use native.Mathlib.Omega.{arith}
use lib.Dec.{T, lit≤, lit<}
use lib.IntN.{ℤ}
use lib.Pow.{pow_pos}
use lib.Ieee.{Float, nan, inf, fin, binary64, up, down, unlike, size, units, odd, round, div, neg, le, of_int, of_bits}
use lib.Ieee.Fits.{down_pos}
use lib.Ieee.Order.{round_mono}
use Rattle.point.specs.Floats.{◌⊘◌, bits, zero_f, half_f, one_f}
use Rattle.point.proofs.Signs.{Plus, round_plus}
use Rattle.point.proofs.Numbers.{Number}
use Rattle.point.proofs.Sizes.{Within, within_finite, round_within}
use Rattle.point.proofs.Rising.{as_fin, le_cross}
use Rattle.stuv.proofs.Bridges.{st_first, st_middle, st_last}
use Rattle.stuv.proofs.Finite.{st_finite}
use Rattle.stuv.proofs.Rising.{InUnit, st_rises}
use Rattle.cell.specs.Cell.{ij_to_st_min, line_at, first_at, span_at}
use Rattle.cell.proofs.Laws.{last_le}

-- ---- a line's number over 2 ^ 30

abbrev side : Float
side = bits 0x41d0_0000_0000_0000

number_size : (i : ℕ) → i ≤ 2 ^ 30 → Within (2 ^ 30) (round binary64 false i 1)
number_size i h = round_within (2 ^ 30) false i 1 (lit≤ tt) (lit< tt) (omega (arith, h))

quotient_within : (x : Float) → Within (2 ^ 30) x → Within 1 (x ⊘ side)
unfolding div of_bits
quotient_within nan h = absurd h
quotient_within (inf s) h = absurd h
quotient_within (fin s m e) h =
    round_within 1 (unlike s false) (m * up e * 1) (1 * 2 ^ 30 * down e) (lit≤ tt) (mul-pos (pow_pos 30) (down_pos e)) (fraction (m * up e) (down e) h)
  where
    fraction : (a d : ℕ) → a ≤ 2 ^ 30 * d → a * 1 ≤ 1 * (1 * 2 ^ 30 * d)
    fraction a d h = omega (arith, h)

quotient_plus : (m : ℕ) (e : ℤ) → Plus (fin false m e ⊘ side)
unfolding div of_bits
quotient_plus m e = round_plus binary64 (m * up e * 1) (1 * 2 ^ 30 * down e)

quotient_order : (m n : ℕ) (e d : ℤ) → T (le (fin false m e) (fin false n d)) → T (le (fin false m e ⊘ side) (fin false n d ⊘ side))
unfolding div of_bits
quotient_order m n e d h =
    round_mono binary64 (m * up e * 1) (1 * 2 ^ 30 * down e) (n * up d * 1) (1 * 2 ^ 30 * down d)
    (mul-pos (pow_pos 30) (down_pos e)) (mul-pos (pow_pos 30) (down_pos d)) (wider (m * up e) (n * up d) (down e) (down d) (le_cross m n e d h))
  where
    wider : (a b c k : ℕ) → a * k ≤ b * c → a * 1 * (1 * 2 ^ 30 * k) ≤ b * 1 * (1 * 2 ^ 30 * c)
    wider a b c k h = omega (arith, h)

st_within : (i : ℕ) → i ≤ 2 ^ 30 → Within 1 (ij_to_st_min i)
unfolding ij_to_st_min of_int
st_within i h = quotient_within (round binary64 false i 1) (number_size i h)

st_order : (i j : ℕ) → i ≤ j → j ≤ 2 ^ 30 → T (le (ij_to_st_min i) (ij_to_st_min j))
unfolding ij_to_st_min of_int
st_order i j h g =
    let a = as_fin (round binary64 false i 1) (within_finite (2 ^ 30) (round binary64 false i 1) (number_size i (omega arith)), round_plus binary64 i 1) in
    let b = as_fin (round binary64 false j 1) (within_finite (2 ^ 30) (round binary64 false j 1) (number_size j g), round_plus binary64 j 1) in
    let l : T (le (round binary64 false i 1) (round binary64 false j 1)) = round_mono binary64 i 1 j 1 (lit< tt) (lit< tt) (omega arith) in
    rw (a.2, b.2) (quotient_order a.0 b.0 a.1 b.1 (rw (a.2, b.2) at l))

-- 0, 2 ^ 29 and 2 ^ 30 over 2 ^ 30
zero_is : ij_to_st_min 0 ≡ zero_f
unfolding ij_to_st_min of_int div of_bits round units odd size
zero_is = refl

half_is : ij_to_st_min (2 ^ 29) ≡ half_f
unfolding ij_to_st_min of_int div of_bits round units odd size
half_is = refl

one_is : ij_to_st_min (2 ^ 30) ≡ one_f
unfolding ij_to_st_min of_int div of_bits round units odd size
one_is = refl

st_plus : (i : ℕ) → i ≤ 2 ^ 30 → Plus (ij_to_st_min i)
unfolding ij_to_st_min of_int
st_plus i h =
    let a = as_fin (round binary64 false i 1) (within_finite (2 ^ 30) (round binary64 false i 1) (number_size i h), round_plus binary64 i 1) in
    rw a.2 (quotient_plus a.0 a.1)

st_in : (i : ℕ) → i ≤ 2 ^ 30 → InUnit (ij_to_st_min i)
st_in i h = record { size = (within_finite 1 (ij_to_st_min i) (st_within i h), st_plus i h); most = rw one_is at (st_order i (2 ^ 30) h (lit≤ tt)) }

-- ---- the lines

-- a line is finite
line_finite : (i : ℕ) → i ≤ 2 ^ 30 → Number (line_at i)
unfolding line_at
line_finite i h = st_finite (ij_to_st_min i) (st_within i h)

-- a line with a larger number is no smaller
pub lines_rise : (i j : ℕ) → i ≤ j → j ≤ 2 ^ 30 → T (le (line_at i) (line_at j))
unfolding line_at
lines_rise i j h g = st_rises (ij_to_st_min i) (ij_to_st_min j) (st_in i (omega arith)) (st_in j g) (st_order i j h g)

-- the first is -1, the middle one 0, the last 1
pub line_first : line_at 0 ≡ neg one_f
unfolding line_at
line_first = rw zero_is st_first

pub line_middle : line_at (2 ^ 29) ≡ zero_f
unfolding line_at
line_middle = rw half_is st_middle

pub line_last : line_at (2 ^ 30) ≡ one_f
unfolding line_at
line_last = rw one_is st_last

-- the two ends of a cell's stretch are finite, and the first is at most the second
pub span_finite : (i level : ℕ) → level ≤ 30 → i < 2 ^ 30 → Number (span_at i level).lo × Number (span_at i level).hi
unfolding span_at
span_finite i level l h =
    let last = last_le i (30 - level) (omega arith) h in
    (line_finite (first_at i level) (omega (arith, last)), line_finite (first_at i level + 2 ^ (30 - level)) last)

pub span_rises : (i level : ℕ) → level ≤ 30 → i < 2 ^ 30 → T (le (span_at i level).lo (span_at i level).hi)
unfolding span_at
span_rises i level l h = lines_rise (first_at i level) (first_at i level + 2 ^ (30 - level)) (omega arith) (last_le i (30 - level) (omega arith) h)
