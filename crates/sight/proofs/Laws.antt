-- What a look says of the two tests behind it, and what two sets of four say of the looks.
use mathlib.Core.Path.{◌≡◌, refl, ap₂}
use mathlib.Core.Bool.{Bool, true, false}
use Prim.Native.Nat.{ℕ, zero, suc, ◌/◌, ◌%◌, ◌^◌, ◌≤◌, ◌<◌}
use native.Mathlib.Omega.{arith}
use Rattle.cellid.proofs.Laws.{one_le}
use Rattle.sight.specs.Sight.{sight_by, passes, is_inside, four_bits, four_sights, weight_of}
use Rattle.sight.specs.declared.Sight.{Sight}

-- ---- the tests from the answer

pub passes_by : (m i : Bool) → passes (sight_by m i) ≡ m
unfolding sight_by
passes_by true true = refl
passes_by true false = refl
passes_by false i = refl

-- where containing implies intersecting
pub inside_by : (m i : Bool) → (i ≡ true → m ≡ true) → is_inside (sight_by m i) ≡ i
unfolding sight_by
inside_by true true h = refl
inside_by true false h = refl
inside_by false true h = h refl
inside_by false false h = refl

-- ---- four looks

module _ (a b c d : Sight) where
  -- both sets, read from the one number in which they stand
  pub two_sets : (all : ℕ) → all ≡ four_bits (weight_of a) (weight_of b) (weight_of c) (weight_of d) → record { passing = all % 16; inside = all / 16 } ≡ four_sights a b c d
  unfolding four_sights
  two_sets all e = ap₂ (λ (p i : ℕ). record { passing = p; inside = i })
      (omega (arith, e, one_le (passes a), one_le (passes b), one_le (passes c), one_le (passes d)))
      (omega (arith, e, one_le (passes a), one_le (passes b), one_le (passes c), one_le (passes d)))

  pub sets_lt : ((four_sights a b c d).passing < 16) × ((four_sights a b c d).inside < 16)
  unfolding four_sights
  sets_lt = (
    omega (arith, one_le (passes a), one_le (passes b), one_le (passes c), one_le (passes d)),
    omega (arith, one_le (is_inside a), one_le (is_inside b), one_le (is_inside c), one_le (is_inside d)),
  )

-- a bit of four
pub pick_bit : (f : ℕ → ℕ) → ((n : ℕ) → f n ≤ 1) → (n : ℕ) → n < 4 → four_bits (f 0) (f 1) (f 2) (f 3) / 2 ^ n % 2 ≡ f n
pick_bit f h zero g = omega (arith, h 0, h 1, h 2, h 3)
pick_bit f h (suc zero) g = omega (arith, h 0, h 1, h 2, h 3)
pick_bit f h (suc (suc zero)) g = omega (arith, h 0, h 1, h 2, h 3)
pick_bit f h (suc (suc (suc zero))) g = omega (arith, h 0, h 1, h 2, h 3)
pick_bit f h (suc (suc (suc (suc n)))) g = absurd (omega arith)
