-- `cap::look_quarters` meets its contract: the shared corner is enough, or nine corners decide.
use mathlib.Core.Path.{sym, ◌∙◌}
use native.Mathlib.Omega.{arith}
use Rattle.cap.proofs.Siblings.{nine_le, held_read, shared_enough, shared_not}
use Rattle.cap.proofs.look_quarters.Goals as goal

pub returns-then-shared_is_enough : goal.returns-then-shared_is_enough
returns-then-shared_is_enough c = shared_enough _ _ _ (sym c.shared_is_enough.ensures ∙ c.if-shared_is_enough.true)

pub held_square-requires : goal.held_square-requires
held_square-requires c = (omega arith, λ k. nine_le _ _ _ k c.held_nine-h.ensures)

pub held_square-requires-2 : goal.held_square-requires-2
held_square-requires-2 c = (omega arith, λ k. nine_le _ _ _ k c.held_nine-h.ensures)

pub held_square-requires-3 : goal.held_square-requires-3
held_square-requires-3 c = (omega arith, λ k. nine_le _ _ _ k c.held_nine-h.ensures)

pub held_square-requires-4 : goal.held_square-requires-4
held_square-requires-4 c = (omega arith, λ k. nine_le _ _ _ k c.held_nine-h.ensures)

pub look_parts-requires : goal.look_parts-requires
look_parts-requires c =
    let p = c.corners-p.ensures in
    let e = c.held_nine-h.ensures in
    record {
      face_bound = (c.requires, p);
      a_value = (
        held_read _ _ _ _ 0 _ (omega arith) p e c.held_square.ensures,
        held_read _ _ _ _ 1 _ (omega arith) p e c.held_square-2.ensures,
        held_read _ _ _ _ 2 _ (omega arith) p e c.held_square-3.ensures,
        held_read _ _ _ _ 3 _ (omega arith) p e c.held_square-4.ensures,
      );
    }

pub returns : goal.returns
returns c = c.look_parts.ensures ∙ shared_not _ _ _ (sym c.shared_is_enough.ensures ∙ c.if-shared_is_enough.false)
