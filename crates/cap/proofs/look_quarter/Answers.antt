-- `cap::look_quarter` meets its contract.
use mathlib.Core.Path.{◌≡◌, sym, ◌∙◌}
use native.Mathlib.Omega.{arith}
use Rattle.cap.proofs.Looks.{none_held, all_held, some_held}
use Rattle.cap.proofs.look_quarter.Goals as goal

pub look_past-requires : goal.look_past-requires
look_past-requires c = let n = c.requires.near_value in let z = c.requires.face_bound in (n.0, z.0, z.1, z.2 c.in-0.is)

pub returns-in-0 : goal.returns-in-0
returns-in-0 c = c.look_past.ensures ∙ sym (none_held _ _ (sym c.requires.near_value.2 ∙ c.in-0.is))

pub look_past-requires-in-4 : goal.look_past-requires-in-4
look_past-requires-in-4 c = let n = c.requires.near_value in let z = c.requires.face_bound in (rw c.complement.ensures n.1, z.0, z.1, z.3 c.in-4.is)

pub returns-in-4 : goal.returns-in-4
returns-in-4 c = rw (← c.complement.ensures) c.look_past-in-4.ensures ∙ sym (all_held _ _ (sym c.requires.near_value.2 ∙ c.in-4.is))

pub returns-in_default : goal.returns-in_default
returns-in_default c =
    let h = c.requires.near_value.2 in
    sym (some_held _ _ (λ e. let z : c.args.held ≡ 0 = h ∙ e in grind (arith, z)) (λ e. let z : c.args.held ≡ 4 = h ∙ e in grind (arith, z)))
