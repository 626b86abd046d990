use Rattle.denorm.proofs.Writes.{Counting}
use Rattle.denorm.proofs.fits.Given as goal

abbrev pub invariant-loop-id : goal.invariant-loop-id
invariant-loop-id l = Counting l.list l.low l.step l.room l.left l.id-index
