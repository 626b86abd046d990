-- A vector of three floats, which is also a point of the sphere where it has unit length: r3/vector.rs, in its order of operations. Definitions only.
use Rattle.std.specs.Prelude.{Bool, cond, ◌&&◌, Float}
use Rattle.std.specs.Float.{binary64}
use Rattle.std.specs.Float.Ieee.{lt, eq}
use Rattle.root.specs.Root.{root}
use Rattle.point.specs.Floats.{◌⊕◌, ◌⊖◌, ◌⊗◌, ◌⊘◌, bits, zero_f, one_f, abs_of}
use Rattle.point.specs.declared.Point.{Point}

unfoldable pub sub_of : Point → Point → Point
sub_of a b = record { x = a.x ⊖ b.x; y = a.y ⊖ b.y; z = a.z ⊖ b.z }

-- the vector times a number
unfoldable pub mul_of : Point → Float → Point
mul_of a m = record { x = a.x ⊗ m; y = a.y ⊗ m; z = a.z ⊗ m }

unfoldable pub dot_of : Point → Point → Float
dot_of a b = a.x ⊗ b.x ⊕ a.y ⊗ b.y ⊕ a.z ⊗ b.z

unfoldable pub cross_of : Point → Point → Point
cross_of a b = record {
  x = a.y ⊗ b.z ⊖ a.z ⊗ b.y;
  y = a.z ⊗ b.x ⊖ a.x ⊗ b.z;
  z = a.x ⊗ b.y ⊖ a.y ⊗ b.x;
}

-- the square of the length
unfoldable pub norm2_of : Point → Float
norm2_of a = dot_of a a

unfoldable pub norm_of : Point → Float
norm_of a = root binary64 (norm2_of a)

-- all three are zeros, of either sign
unfoldable pub is_zero : Point → Bool
is_zero a = eq a.x zero_f && eq a.y zero_f && eq a.z zero_f

-- the zero vector stays itself; any other is multiplied by 1 over its length
unfoldable pub normalize_of : Point → Point
normalize_of a = cond (is_zero a) a (mul_of a (one_f ⊘ norm_of a))

-- the square of the length is less than 5e-14 from 1
unfoldable pub is_unit : Point → Bool
is_unit a = lt (abs_of (norm2_of a ⊖ one_f)) (bits 0x3d2c_25c2_6849_7682)
