use native.Mathlib.Omega.{arith}
use lib.ListN.{drop_of_length-le}
use Rattle.totals.specs.Totals.{six_of}
use Rattle.replies.specs.Write.{numbers_text, totals_text}
use Rattle.replies.proofs.Writing.{wrote_none, wrote_then, totals_go}
use Rattle.replies.proofs.put_totals.Goals as goal

pub loop-place-init : goal.loop-place-init
unfolding totals_text
loop-place-init c = λ r d w. w

pub loop-place-preserved : goal.loop-place-preserved
loop-place-preserved c = λ r d w. c.loop-place.invariant r d (rw (totals_go c.args.t c.loop-place.place c.loop-place-test.true) (wrote_then (rw c.get.ensures at c.put_number-n.ensures) w))

pub returns : goal.returns
unfolding numbers_text
returns c = c.loop-place.invariant _ _ (rw (drop_of_length-le (six_of c.args.t) {i = c.loop-place.place} c.loop-place-test.false) (wrote_none _ _))
