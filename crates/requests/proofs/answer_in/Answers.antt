-- `requests::answer_in`: the parts are no longer than the whole, and what is answered within them stands before what is left of the memory and of the output.
use mathlib.Core.Path.{sym}
use native.Mathlib.Omega.{arith}
use lib.Seq.{length-take-le}
use Rattle.requests.proofs.Laws.{answered_in}
use Rattle.requests.proofs.answer_in.Goals as goal

pub slice_bounds-answer_run-end-2 : goal.slice_bounds-answer_run-end-2
slice_bounds-answer_run-end-2 c = sym (length-take-le _ _ (omega arith))

pub slice_bounds-answer_run-end-4 : goal.slice_bounds-answer_run-end-4
slice_bounds-answer_run-end-4 c = sym (length-take-le _ _ (omega arith))

pub returns : goal.returns
returns c = (answered_in _ _ _ _ _ _ _ _ c.min-m.ensures c.min-o.ensures c.answer_run.ensures.0, c.answer_run.ensures.1)
