-- `lines::put_answer`: case by case.
use mathlib.Core.Path.{sym}
use lib.Seq.{length-take-le}
use Rattle.ranges.specs.Ranges.{words_of}
use Rattle.lines.specs.Lines.{answer_text}
use Rattle.lines.proofs.put_answer.Goals as goal

pub slice_bounds-put_list-end : goal.slice_bounds-put_list-end
unfolding words_of
slice_bounds-put_list-end c = sym (length-take-le _ _ (rw c.in-Ok.is at c.requires))

pub returns-in-Ok : goal.returns-in-Ok
unfolding answer_text
returns-in-Ok c = rw c.in-Ok.is c.put_list.ensures

pub returns-in-Err : goal.returns-in-Err
unfolding answer_text
returns-in-Err c = rw (c.in-Err.is, ← c.number.ensures) c.put_refused.ensures
