-- `night::say_wrong`: the text lies in the page.
use mathlib.Core.Path.{sym}
use native.Mathlib.Omega.{arith}
use lib.Seq.{length-take-le}
use Rattle.night.proofs.say_wrong.Goals as goal

pub slice_bounds-say-end-2 : goal.slice_bounds-say-end-2
slice_bounds-say-end-2 c = sym (length-take-le _ _ (omega arith))
