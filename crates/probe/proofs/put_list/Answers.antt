-- `probe::put_list`: the first so many ids are so many.
use mathlib.Core.Path.{sym}
use lib.Seq.{length-take-le}
use Rattle.probe.proofs.put_list.Goals as goal

pub slice_bounds-put_ids-end-then-count-ids : goal.slice_bounds-put_ids-end-then-count-ids
slice_bounds-put_ids-end-then-count-ids c = sym (length-take-le _ _ c.if-count-ids.true)
