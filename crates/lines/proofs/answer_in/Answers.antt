-- `lines::answer_in`: the part is no longer than the whole, and what is answered within it stands before what is left of the output.
use mathlib.Core.Path.{sym}
use native.Mathlib.Omega.{arith}
use lib.Seq.{length-take-le}
use Rattle.lines.proofs.Laws.{answered_in}
use Rattle.lines.proofs.answer_in.Goals as goal

pub slice_bounds-answer_for-end : goal.slice_bounds-answer_for-end
slice_bounds-answer_for-end c = sym (length-take-le _ _ (omega arith))

pub slice_bounds-answer_for-end-4 : goal.slice_bounds-answer_for-end-4
slice_bounds-answer_for-end-4 c = sym (length-take-le _ _ (omega arith))

pub returns : goal.returns
returns c = let args = c.args in
    answered_in _ args.lists.now args.first _ _ _ _ _ c.min-o.ensures c.answer_for.ensures
