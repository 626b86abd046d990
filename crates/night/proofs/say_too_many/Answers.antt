-- `night::say_too_many`: the text lies in the page.
use mathlib.Core.Path.{sym}
use lib.Seq.{length-take-le}
use Rattle.replies.proofs.Lengths.{within}
use Rattle.night.proofs.say_too_many.Goals as goal

pub slice_bounds-say-end : goal.slice_bounds-say-end
slice_bounds-say-end c = within _ _ _ _ c.put_too_many-length.ensures

pub slice_bounds-say-end-2 : goal.slice_bounds-say-end-2
slice_bounds-say-end-2 c = sym (length-take-le _ _ (within _ _ _ _ c.put_too_many-length.ensures))
