-- `root::root_bits` meets its contract. Assumes nothing.
use Rattle.std.proofs.Common.{◌≡◌, ℕ, ◌+◌, ◌-◌, ◌*◌, ◌/◌, ◌%◌, ◌^◌, ◌<◌, ◌≤◌, sym, refl, ap, ◌∙◌, subst, mul_assoc, arith, pow-add}
use mathlib.Core.Logic.{inl, inr}
use native.Mathlib.Decide.{dec_lt}
use lib.Bits.{bit_and, and_mask}
use lib.Count.{count_leading_zeros}
use lib.Ieee.{nan, binary64, of_bits, to_bits}
use Rattle.root.specs.Root.{root, rooted}
use Rattle.root.proofs.Patterns.{normal, subnormal, root_odd}
use Rattle.root.proofs.Signs.{nan_pattern, written_nan, below_zero, written_back}
use Rattle.root.proofs.Shifts.{Shifted, shifted, same_number}
use Rattle.root.proofs.root_bits.Goals.{In-1-to-4503599627370495}
use Rattle.root.proofs.root_bits.Goals as goal

abbrev Answer : ℕ → ℕ
Answer b = to_bits binary64 (root binary64 (of_bits binary64 b))

at_zero : 0 ≡ Answer 0
unfolding root to_bits of_bits
at_zero = refl

at_minus_zero : 0x8000_0000_0000_0000 ≡ Answer 0x8000_0000_0000_0000
unfolding root to_bits of_bits
at_minus_zero = refl

at_infinity : 0x7ff0_0000_0000_0000 ≡ Answer 0x7ff0_0000_0000_0000
unfolding root to_bits of_bits
at_infinity = refl

itself : (a b : ℕ) → a ≡ Answer a → b ≡ a → b ≡ Answer b
itself a b h e = subst (λ (x : ℕ). x ≡ Answer x) (sym e) h

root_nan : root binary64 nan ≡ nan
unfolding root
root_nan = refl

no_root : (b : ℕ) → b < 2 ^ 64 → 0x7ff0_0000_0000_0000 < b → (b ≡ 0x8000_0000_0000_0000 → ⊥) → root binary64 (of_bits binary64 b) ≡ nan
no_root b f h n = go (dec_lt b 0x8000_0000_0000_0000)
  where
    go : Dec (b < 0x8000_0000_0000_0000) → root binary64 (of_bits binary64 b) ≡ nan
    go (yes k) = ap (root binary64) (nan_pattern b (omega arith)) ∙ root_nan
    go (no k) = below_zero b (omega arith) f

-- a subnormal value's digits, shifted up
small : (c : In-1-to-4503599627370495) → c.args.b < 2 ^ 52
small c = grind (arith)

above : (c : In-1-to-4503599627370495) → 0 < c.args.b
above c = grind (arith)

up : (c : In-1-to-4503599627370495) → Shifted c.args.b (count_leading_zeros 64 c.args.b - 11)
up c = shifted c.args.b (above c) (small c)

-- a normal value's digits, with the leading one
digits : (b : ℕ) → bit_and b 0xf_ffff_ffff_ffff ≡ b % 2 ^ 52
digits b = and_mask b 52

same_normal : (b : ℕ) → 2 ^ 52 ≤ b → (2 ^ 52 + bit_and b 0xf_ffff_ffff_ffff) * 2 ^ (b / 2 ^ 52 + 1073) ≡ (2 ^ 52 + b % 2 ^ 52) * 2 ^ (b / 2 ^ 52 - 1) * 2 ^ 1074
same_normal b h =
    ap (λ (x : ℕ). (2 ^ 52 + x) * 2 ^ (b / 2 ^ 52 + 1073)) (digits b)
    ∙ ap (λ (x : ℕ). (2 ^ 52 + b % 2 ^ 52) * x) (ap (λ (x : ℕ). 2 ^ x) (shift b h) ∙ pow-add 2 (b / 2 ^ 52 - 1) 1074)
    ∙ sym (mul_assoc (2 ^ 52 + b % 2 ^ 52) (2 ^ (b / 2 ^ 52 - 1)) (2 ^ 1074))
  where
    shift : (b : ℕ) → 2 ^ 52 ≤ b → b / 2 ^ 52 + 1073 ≡ b / 2 ^ 52 - 1 + 1074
    shift b h = omega arith

pub returns-in-0 : goal.returns-in-0
returns-in-0 c = elim c.in-0.is [
  | inl e ↦ itself 0 c.args.b at_zero e
  | inr (inl e) ↦ itself _ _ at_infinity e
  | inr (inr e) ↦ itself _ _ at_minus_zero e
]

pub returns-in_default : goal.returns-in_default
returns-in_default c =
    let b = c.args.b in
    written_nan (root binary64 (of_bits binary64 b)) (no_root b c.ranges.b.fits (grind (arith)) (grind (arith)))

pub overflow_sub-z : goal.overflow_sub-z
overflow_sub-z c = let k = up c in omega arith

pub overflow_cast-z : goal.overflow_cast-z
overflow_cast-z c = let k = up c in omega arith

pub overflow_shl-b : goal.overflow_shl-b
overflow_shl-b c = let k = up c in omega arith

pub overflow_cast-z-in-1-to-4503599627370495 : goal.overflow_cast-z-in-1-to-4503599627370495
overflow_cast-z-in-1-to-4503599627370495 c = let k = up c in omega arith

pub overflow_sub-z-in-1-to-4503599627370495 : goal.overflow_sub-z-in-1-to-4503599627370495
overflow_sub-z-in-1-to-4503599627370495 c = let k = up c in omega arith

pub root_parts-requires : goal.root_parts-requires
root_parts-requires c = let k = up c in (rw k.exact k.lo, rw k.exact k.hi, omega arith, omega arith)

pub returns-in-1-to-4503599627370495 : goal.returns-in-1-to-4503599627370495
returns-in-1-to-4503599627370495 c =
    let b = c.args.b in
    let z = count_leading_zeros 64 b - 11 in
    let k = up (goal.at.returns-in-1-to-4503599627370495 c).In-1-to-4503599627370495 in
    let h = small (goal.at.returns-in-1-to-4503599627370495 c).In-1-to-4503599627370495 in
    let a = above (goal.at.returns-in-1-to-4503599627370495 c).In-1-to-4503599627370495 in
    written_back c.root_parts.result (root binary64 (of_bits binary64 b)) (omega arith)
    (c.root_parts.ensures.value
    ∙ ap (rooted binary64) (ap (λ (x : ℕ). x * 2 ^ (1074 - z)) k.exact ∙ same_number b z (omega arith))
    ∙ sym (ap (root binary64) (subnormal b h) ∙ root_odd binary64 b 0 a))

pub overflow_add-b : goal.overflow_add-b
overflow_add-b c = omega (arith, digits c.args.b)

pub root_parts-requires-in-4503599627370496-to-9218868437227405311 : goal.root_parts-requires-in-4503599627370496-to-9218868437227405311
root_parts-requires-in-4503599627370496-to-9218868437227405311 c = omega (arith, digits c.args.b)

pub returns-in-4503599627370496-to-9218868437227405311 : goal.returns-in-4503599627370496-to-9218868437227405311
returns-in-4503599627370496-to-9218868437227405311 c =
    let b = c.args.b in
    let h : 2 ^ 52 ≤ b = grind (arith) in
    let r = c.root_parts-in-4503599627370496-to-9218868437227405311 in
    written_back r.result (root binary64 (of_bits binary64 b)) (omega arith)
    (r.ensures.value
    ∙ ap (rooted binary64) (same_normal b h)
    ∙ sym (ap (root binary64) (normal b h (omega arith)) ∙ root_odd binary64 (2 ^ 52 + b % 2 ^ 52) (b / 2 ^ 52 - 1) (omega arith)))
