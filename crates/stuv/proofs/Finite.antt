-- The lines of a face are finite: from what lies within 1 of zero in (s, t), the quadratic map makes a finite value.
use lib.Dec.{lit≤}
use lib.Ieee.{Float, binary64, size, units, odd, round, div, le, of_bits}
use lib.Ieee.Fits.{mul-fits}
use Rattle.point.specs.Floats.{◌⊖◌, ◌⊗◌, ◌⊘◌, half_f, one_f, three_f, four_f}
use Rattle.point.proofs.Laws.{either}
use Rattle.point.proofs.Numbers.{Number}
use Rattle.point.proofs.Sizes.{Within, within_number, sub_within, mul_within}
use Rattle.stuv.specs.Projection.{st_to_uv}

third_within : Within 1 (one_f ⊘ three_f)
unfolding div of_bits round units odd size
third_within = lit≤ tt

pub four_within : Within 4 four_f
unfolding of_bits
four_within = lit≤ tt

one_within : Within 1 one_f
unfolding of_bits
one_within = lit≤ tt

-- what the two halves of the map make on the way, from what is within 1 of zero
module _ (s : Float) (h : Within 1 s) where
  square_within : Within 4 (four_f ⊗ s ⊗ s)
  square_within = mul_within 4 1 (four_f ⊗ s) s (lit≤ tt) (mul_within 4 1 four_f s (lit≤ tt) four_within h) h

  pub upper_within : Within 5 (four_f ⊗ s ⊗ s ⊖ one_f)
  upper_within = sub_within 4 1 (four_f ⊗ s ⊗ s) one_f (lit≤ tt) square_within one_within

  pub rest_within : Within 2 (one_f ⊖ s)
  rest_within = sub_within 1 1 one_f s (lit≤ tt) one_within h

  rest_square_within : Within 16 (four_f ⊗ (one_f ⊖ s) ⊗ (one_f ⊖ s))
  rest_square_within =
      mul_within 8 2 (four_f ⊗ (one_f ⊖ s)) (one_f ⊖ s) (lit≤ tt) (mul_within 4 2 four_f (one_f ⊖ s) (lit≤ tt) four_within rest_within) rest_within

  pub lower_within : Within 17 (one_f ⊖ four_f ⊗ (one_f ⊖ s) ⊗ (one_f ⊖ s))
  lower_within = sub_within 1 16 one_f (four_f ⊗ (one_f ⊖ s) ⊗ (one_f ⊖ s)) (lit≤ tt) one_within rest_square_within

-- what is within 1 of zero in (s, t) is finite in (u, v)
pub st_finite : (s : Float) → Within 1 s → Number (st_to_uv s)
unfolding st_to_uv
st_finite s h =
    either Number (le half_f s) (one_f ⊘ three_f ⊗ (four_f ⊗ s ⊗ s ⊖ one_f)) (one_f ⊘ three_f ⊗ (one_f ⊖ four_f ⊗ (one_f ⊖ s) ⊗ (one_f ⊖ s)))
    (within_number 5 (one_f ⊘ three_f ⊗ (four_f ⊗ s ⊗ s ⊖ one_f))
    (mul_within 1 5 (one_f ⊘ three_f) (four_f ⊗ s ⊗ s ⊖ one_f) (lit≤ tt) third_within (upper_within s h))
    (mul-fits binary64 (one_f ⊘ three_f) (four_f ⊗ s ⊗ s ⊖ one_f)))
    (within_number 17 (one_f ⊘ three_f ⊗ (one_f ⊖ four_f ⊗ (one_f ⊖ s) ⊗ (one_f ⊖ s)))
    (mul_within 1 17 (one_f ⊘ three_f) (one_f ⊖ four_f ⊗ (one_f ⊖ s) ⊗ (one_f ⊖ s)) (lit≤ tt) third_within (lower_within s h))
    (mul-fits binary64 (one_f ⊘ three_f) (one_f ⊖ four_f ⊗ (one_f ⊖ s) ⊗ (one_f ⊖ s))))
