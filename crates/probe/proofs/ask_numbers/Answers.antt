-- `probe::ask_numbers`: there is a place for each field.
use mathlib.Core.Path.{sym}
use lib.Seq.{length-take-le}
use Rattle.probe.proofs.ask_numbers.Goals as goal

pub slice_bounds-read_numbers-end : goal.slice_bounds-read_numbers-end
slice_bounds-read_numbers-end c = sym (length-take-le _ _ c.fields_of-count.ensures.1)
