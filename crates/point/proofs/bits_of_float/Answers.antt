-- `point::bits_of_float`: a NaN apart, the pattern is the float's.
use mathlib.Core.Path.{◌≡◌, refl, sym, ◌∙◌}
use mathlib.Core.Bool.{true}
use lib.Ieee.{Float, nan, inf, fin, is_nan}
use Rattle.root.proofs.Kept.{no}
use Rattle.root.proofs.Signs.{written_nan}
use Rattle.point.proofs.Laws.{never}
use Rattle.point.proofs.bits_of_float.Goals as goal

one_nan : (x : Float) → is_nan x ≡ true → x ≡ nan
unfolding is_nan
one_nan nan h = refl
one_nan (inf s) h = never h
one_nan (fin s m e) h = never h

pub returns-then-is_nan : goal.returns-then-is_nan
returns-then-is_nan c = written_nan _ (one_nan _ (sym c.is_nan.ensures.value ∙ c.if-is_nan.true))

pub float_to_bits-result : goal.float_to_bits-result
float_to_bits-result c = no _ (sym c.is_nan.ensures.value ∙ c.if-is_nan.false)
