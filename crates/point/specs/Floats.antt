-- Floats as the Rust writes them: 64 bits, each operation rounded once. Definitions only.
use Rattle.std.specs.Prelude.{ℕ, Float, false}
use Rattle.std.specs.Float.Ieee as Ieee
use Rattle.std.specs.Float.{nan, inf, fin, binary64}
use Rattle.std.specs.Float.Ieee.{of_bits}

abbrev pub ◌⊕◌ : Float → Float → Float
x ⊕ y = Ieee.add binary64 x y

abbrev pub ◌⊖◌ : Float → Float → Float
x ⊖ y = Ieee.sub binary64 x y

abbrev pub ◌⊗◌ : Float → Float → Float
x ⊗ y = Ieee.mul binary64 x y

abbrev pub ◌⊘◌ : Float → Float → Float
x ⊘ y = Ieee.div binary64 x y

infixl 60 ◌⊕◌
infixl 60 ◌⊖◌
infixl 70 ◌⊗◌
infixl 70 ◌⊘◌
-- a literal of the source, by its bit pattern
abbrev pub bits : ℕ → Float
bits b = of_bits binary64 b

abbrev pub zero_f : Float
zero_f = bits 0

abbrev pub quarter_f : Float
quarter_f = bits 0x3fd0_0000_0000_0000

abbrev pub half_f : Float
half_f = bits 0x3fe0_0000_0000_0000

abbrev pub one_f : Float
one_f = bits 0x3ff0_0000_0000_0000

abbrev pub two_f : Float
two_f = bits 0x4000_0000_0000_0000

abbrev pub three_f : Float
three_f = bits 0x4008_0000_0000_0000

abbrev pub four_f : Float
four_f = bits 0x4010_0000_0000_0000

-- Rust's `abs`: the sign cleared, a zero's too; a NaN stays one
unfoldable pub abs_of : Float → Float
abs_of nan = nan
abs_of (inf s) = inf false
abs_of (fin s m e) = fin false m e
