-- `expand_children` meets its contract.
use mathlib.Core.Path.{◌≡◌, refl, sym, ap, ◌∙◌}
use mathlib.Core.Bool.{false}
use native.Mathlib.Numerals.{add-one}
use native.Mathlib.Omega.{arith}
use Prim.Native.Nat.{ℕ, suc, ◌-◌, ◌*◌, ◌^◌, ◌≤◌, ◌<◌}
use Rattle.cellid.specs.CellId.{child_of}
use Rattle.region.specs.Region.{Area, area_of, intersects_cell, contains_cell}
use Rattle.run.specs.declared.Found.{Found}
use Rattle.run.specs.Masks.{up_to, found, found_part}
use Rattle.run.proofs.Masks.{part_more, part_none, found_four}
use Rattle.run.specs.declared.Request.{Request}
use Rattle.candidate.specs.Candidate.{task_of}
use Rattle.candidate.proofs.Laws.{positive, child_of_lem, width_is, roomy}
use Rattle.candidate.proofs.Siblings.{bit_test, bit_yes, bit_no}
use Rattle.candidate.proofs.asking.Asking.+expand_children.Goals.{Joined-passing-k-eq1, then-passing-k-eq1, else-passing-k-eq1}
use Rattle.candidate.proofs.asking.Asking.+expand_children.Goals as goal

-- a child's sets, with n levels left beneath it
abbrev part : Request → Area → ℕ → ℕ → Found
part q a = found_part (task_of q a)

pub loop-k-init : goal.loop-k-init
unfolding up_to
loop-k-init t c = record { few = omega arith; so_far = refl }

pub child-requires-clause-id_nonzero : goal.child-requires-clause-id_nonzero
child-requires-clause-id_nonzero t c = positive _ c.requires.cell.0

pub expand_children-f-requires : goal.expand_children-f-requires
expand_children-f-requires t c =
    let z = c.requires in (
      omega (arith, z.left_nonzero.0),
      (
        (omega (arith, c.if-left-eq1.false, z.left_nonzero.0), omega (arith, z.left_nonzero.1)),
        rw c.child.ensures (child_of_lem c.args.id c.loop-k.k c.args.left z.cell.0 (omega arith) z.left_nonzero.0 z.cell.1),
      ),
    )

-- what the two ways give is the child's sets
part_is : (t : ℕ) (c : Joined-passing-k-eq1 t) → c.if-passing-k-eq1.f ≡ part c.args.self.request (area_of c.args.self.region) (c.args.left - 1) (child_of c.args.id c.loop-k.k)
part_is t c =
    let T = task_of c.args.self.request (area_of c.args.self.region) in
    let hits = intersects_cell (area_of c.args.self.region) in
    let within = contains_cell (area_of c.args.self.region) in
    let some : 0 < c.args.left - 1 = omega (arith, c.requires.left_nonzero.0, c.if-left-eq1.false) in
    let k = c.loop-k.k in
    let n = c.args.left - 1 in
    let b = bit_test hits within false c.args.id k c.look_children-l.result (omega arith) c.look_children-l.ensures in
    elim c.if-passing-k-eq1.branch [
      | then-passing-k-eq1 w ↦ w.f-is ∙ rw w.child.ensures at w.expand_children-f.ensures ∙ sym (part_more T n (child_of c.args.id k) some (bit_yes (hits (child_of c.args.id k)) (sym b ∙ w.if-passing-k-eq1.true)))
      | else-passing-k-eq1 w ↦ w.f-is ∙ sym (part_none T n (child_of c.args.id k) some (bit_no (hits (child_of c.args.id k)) (λ e. w.if-passing-k-eq1.false (b ∙ e))))
    ]

pub placed-acc-requires : goal.placed-acc-requires
placed-acc-requires t c =
    let n = c.args.left - 1 in
    let l : n ≤ 2 = omega (arith, c.requires.left_nonzero.1) in
    rw (part_is t c, c.loop-k.invariant.so_far, width_is n l)
    (roomy (task_of c.args.self.request (area_of c.args.self.region)) n c.args.id c.loop-k.k l (omega arith))

pub loop-k-preserved : goal.loop-k-preserved
unfolding up_to
loop-k-preserved t c =
    let l : c.args.left - 1 ≤ 2 = omega (arith, c.requires.left_nonzero.1) in
    record {
      few = omega arith;
      so_far = c.placed-acc.ensures ∙ rw (part_is t (goal.at.loop-k-preserved t c).Joined-passing-k-eq1, c.loop-k.invariant.so_far, width_is (c.args.left - 1) l, add-one);
    }

pub returns : goal.returns
returns t c =
    let four : c.loop-k.k ≡ 4 = omega arith in
    let more : c.args.left ≡ suc (c.args.left - 1) = omega (arith, c.requires.left_nonzero.0) in
    c.loop-k.invariant.so_far ∙ ap (up_to (part c.args.self.request (area_of c.args.self.region) (c.args.left - 1)) (2 ^ (2 * (c.args.left - 1))) c.args.id) four
    ∙ sym (found_four (task_of c.args.self.request (area_of c.args.self.region)) (c.args.left - 1) c.args.id)
    ∙ ap (λ (n : ℕ). found (task_of c.args.self.request (area_of c.args.self.region)) n c.args.id) (sym more)
