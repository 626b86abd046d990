-- `root::root_near` meets its contract, whatever the guess: the test says that s is the whole part of the root of m. Assumes nothing.
use Rattle.std.proofs.Common.{ℕ, ◌+◌, ◌-◌, ◌*◌, ◌/◌, ◌%◌, ◌^◌, ◌<◌, ◌≤◌, mul-le-mul, arith, w64, Fits}
use lib.Bits.{bit_and, mask_lt}
use lib.Ieee.{binary64, to_bits}
use Rattle.root.specs.Root.{Near}
use Rattle.root.proofs.Kept.{no, equal_number}
use Rattle.root.proofs.Parts.{q_hi}
use Rattle.root.proofs.Short.{Digits, digits, answer}
use Rattle.root.proofs.root_near.Goals.{Start}
use Rattle.root.proofs.root_near.Goals as goal

-- m, from the pattern, and s, from the guess's pattern
abbrev even : ℕ → ℕ
even b = (2 ^ 52 + bit_and b 0xf_ffff_ffff_ffff) * 2 ^ (b / 2 ^ 62) % 2 ^ 64

abbrev first : ℕ → ℕ
first g = 0x400_0000 + g / 2 ^ 26 % 0x400_0000

known : (c : Start) → Digits c.args.b (even c.args.b)
known c = digits c.args.b c.requires

first_lt : (g : ℕ) → first g < 2 ^ 27
first_lt g = omega arith

whole_part : (m s : ℕ) → m + 2 ≤ 2 ^ 54 → s < 2 ^ 27 → (m + (2 ^ 64 - s * s)) % 2 ^ 64 ≤ 2 * s → (s * s ≤ m) × (m < (s + 1) * (s + 1))
whole_part m s b h k = omega (arith, mul-le-mul h h)

fits : (m q : ℕ) → m + 2 ≤ 2 ^ 54 → Near (m * 2 ^ 52) q → Fits w64 (0x3fe0_0000_0000_0000 + q)
fits m q h near = omega (arith, q_hi m q h near)

pub overflow_add-m : goal.overflow_add-m
overflow_add-m c = omega (arith, mask_lt c.args.b 52)

pub float_to_bits-s : goal.float_to_bits-s
float_to_bits-s c = no _ (equal_number c.guess-r.result c.if-r.true)

pub overflow_mul-s : goal.overflow_mul-s
overflow_mul-s c =
    let h = first_lt (to_bits binary64 c.guess-r.result) in
    omega (arith, mul-le-mul h h)

pub rounded-requires : goal.rounded-requires
rounded-requires c =
    let k = known (goal.at.rounded-requires c).Start in
    record {
      bound = (k.lo, k.hi);
      s_bound = whole_part _ _ k.hi (first_lt (to_bits binary64 c.guess-r.result)) c.if-m-s.true;
    }

pub overflow_add-result : goal.overflow_add-result
overflow_add-result c = fits _ _ (known (goal.at.overflow_add-result c).Start).hi c.rounded.ensures

pub returns-then-m-s : goal.returns-then-m-s
returns-then-m-s c =
    answer _ _ _ c.requires (known (goal.at.returns-then-m-s c).Start) c.rounded.ensures

pub rounded_root-requires : goal.rounded_root-requires
rounded_root-requires c = let k = known (goal.at.rounded_root-requires c).Start in (k.lo, k.hi)

pub overflow_add-result-2 : goal.overflow_add-result-2
overflow_add-result-2 c = fits _ _ (known (goal.at.overflow_add-result-2 c).Start).hi c.rounded_root.ensures

pub returns : goal.returns
returns c =
    answer _ _ _ c.requires (known (goal.at.returns c).Start) c.rounded_root.ensures
