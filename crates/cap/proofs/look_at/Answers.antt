-- `cap::look_at` meets its contract: the first corner says whether more is to be asked.
use mathlib.Core.Path.{◌≡◌, ◌∙◌}
use mathlib.Core.Bool.{not, false, ◌&&◌, and-false}
use native.Mathlib.Omega.{arith}
use Rattle.cap.proofs.Laws.{face_of_lem}
use Rattle.cap.proofs.Looks.{first_enough, first_not}
use Rattle.cap.proofs.look_at.Goals.{else-all-via-then-all+else-not-whole, else-all-via-else-all}
use Rattle.cap.proofs.look_at.Goals as goal

pub vertex-a-requires : goal.vertex-a-requires
vertex-a-requires c = (face_of_lem _ _ c.requires c.from_id-c.ensures, omega arith)

pub look_corners-requires : goal.look_corners-requires
look_corners-requires c = (face_of_lem _ _ c.requires c.from_id-c.ensures, c.vertex-a.ensures, c.contains_point-all.ensures)

pub returns-then-not-whole : goal.returns-then-not-whole
returns-then-not-whole c = first_enough _ _ _ _ _ _ c.from_id-c.ensures c.vertex-a.ensures c.contains_point-all.ensures (rw (c.if-all.true, c.if-not-whole.true))

pub returns-else-all : goal.returns-else-all
returns-else-all c =
    let e : (not c.args.whole && c.contains_point-all.result) ≡ false = elim c.else-all.branch [
      | else-all-via-then-all+else-not-whole w ↦ rw w.if-not-whole.false
      | else-all-via-else-all w ↦ rw w.if-all.false (and-false (not c.args.whole))
    ] in
    c.look_corners.ensures ∙ first_not _ _ _ _ _ _ c.from_id-c.ensures c.vertex-a.ensures c.contains_point-all.ensures e
