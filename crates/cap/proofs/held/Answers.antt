-- `cap::held` meets its contract.
use mathlib.Core.Path.{◌≡◌, refl}
use mathlib.Core.Bool.{Bool, true, false}
use mir.Val.{bool_byte}
use Rattle.cellid.specs.CellId.{one}
use Rattle.cap.proofs.held.Goals as goal

one_bit : (b : Bool) → bool_byte b ≡ one b
unfolding one
one_bit true = refl
one_bit false = refl

pub returns : goal.returns
returns c = rw (one_bit c.contains_point.result, c.contains_point.ensures)
