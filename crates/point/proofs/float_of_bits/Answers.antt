-- `point::float_of_bits`: a NaN apart, the pattern is the float's.
use mathlib.Core.Path.{sym}
use lib.Ieee.{of_bits, div}
use Rattle.root.proofs.Kept.{no}
use Rattle.root.proofs.Signs.{nan_pattern, number_pattern}
use Rattle.point.proofs.float_of_bits.Goals as goal

pub returns-then-b-gt9218868437227405312 : goal.returns-then-b-gt9218868437227405312
unfolding of_bits div
returns-then-b-gt9218868437227405312 c = sym (nan_pattern _ c.if-b-gt9218868437227405312.true)

pub float_from_bits-result : goal.float_from_bits-result
float_from_bits-result c = no _ (number_pattern _ c.if-b-gt9218868437227405312.false)
