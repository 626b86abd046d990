-- `stuv::face` meets its contract.
use Rattle.stuv.specs.Projection.{axis_of, along_axis, face_toward}
use Rattle.stuv.proofs.face.Goals as goal

pub returns-then-z-y : goal.returns-then-z-y
unfolding face_toward axis_of along_axis
returns-then-z-y c = rw (← c.abs-z.ensures, ← c.abs-y.ensures, ← c.abs-x.ensures, c.if-y-x.true, c.if-z-y.true) c.signed.ensures

pub returns-else-z-y : goal.returns-else-z-y
unfolding face_toward axis_of along_axis
returns-else-z-y c = rw (← c.abs-z.ensures, ← c.abs-y.ensures, ← c.abs-x.ensures, c.if-y-x.true, c.if-z-y.false) c.signed-else-z-y.ensures

pub returns-then-z-x : goal.returns-then-z-x
unfolding face_toward axis_of along_axis
returns-then-z-x c = rw (← c.abs-z.ensures, ← c.abs-y.ensures, ← c.abs-x.ensures, c.if-y-x.false, c.if-z-x.true) c.signed-then-z-x.ensures

pub returns-else-z-x : goal.returns-else-z-x
unfolding face_toward axis_of along_axis
returns-else-z-x c = rw (← c.abs-z.ensures, ← c.abs-y.ensures, ← c.abs-x.ensures, c.if-y-x.false, c.if-z-x.false) c.signed-else-z-x.ensures
