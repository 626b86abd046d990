-- An angle as the square of the chord that spans it, 0 to 4; a negative one is the radius of nothing. Definitions only.
use Rattle.std.specs.Prelude.{cond, Float}
use Rattle.std.specs.Float.Ieee.{lt}
use Rattle.point.specs.Floats.{◌⊖◌, ◌⊗◌, bits, quarter_f, one_f, two_f, four_f}
use Rattle.point.specs.Vector.{sub_of, norm2_of}
use Rattle.point.specs.declared.Point.{Point}

-- NEGATIVE −1, RIGHT 2, STRAIGHT 4
abbrev pub negative : Float
negative = bits 0xbff0_0000_0000_0000

abbrev pub right : Float
right = two_f

abbrev pub straight : Float
straight = four_f

-- the smaller of 4 and x, and 4 where x is no number, as Rust's `min`
unfoldable pub at_most4 : Float → Float
at_most4 x = cond (lt x four_f) x four_f

-- of two points
unfoldable pub chord_angle : Point → Point → Float
chord_angle a b = at_most4 (norm2_of (sub_of a b))

-- the square of the angle's sine: with h the chord's square, h (1 − h / 4)
unfoldable pub sin2_of : Float → Float
sin2_of h = h ⊗ (one_f ⊖ quarter_f ⊗ h)
