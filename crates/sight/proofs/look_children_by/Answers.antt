-- `sight::look_children_by` meets its contract.
use native.Mathlib.Omega.{arith}
use Rattle.cellid.proofs.Leaves.{child_valid}
use Rattle.sight.specs.Sight.{sights_of}
use Rattle.sight.proofs.look_children_by.Goals as goal

pub look-requires : goal.look-requires
look-requires g c = let z = c.requires in z.looks _ (child_valid _ 0 _ z.parted.0 z.parted.1 (omega arith) c.child.ensures)

pub look-requires-2 : goal.look-requires-2
look-requires-2 g c = let z = c.requires in z.looks _ (child_valid _ 1 _ z.parted.0 z.parted.1 (omega arith) c.child-2.ensures)

pub look-requires-3 : goal.look-requires-3
look-requires-3 g c = let z = c.requires in z.looks _ (child_valid _ 2 _ z.parted.0 z.parted.1 (omega arith) c.child-3.ensures)

pub look-requires-4 : goal.look-requires-4
look-requires-4 g c = let z = c.requires in z.looks _ (child_valid _ 3 _ z.parted.0 z.parted.1 (omega arith) c.child-4.ensures)

pub returns : goal.returns
unfolding sights_of
returns g c = let z = c.requires.parted in
    let a = child_valid _ 0 _ z.0 z.1 (omega arith) c.child.ensures in
    let b = child_valid _ 1 _ z.0 z.1 (omega arith) c.child-2.ensures in
    let d = child_valid _ 2 _ z.0 z.1 (omega arith) c.child-3.ensures in
    let e = child_valid _ 3 _ z.0 z.1 (omega arith) c.child-4.ensures in
    λ of h. rw (← c.child.ensures, ← c.child-2.ensures, ← c.child-3.ensures, ← c.child-4.ensures, ← h _ _ a c.look.ensures, ← h _ _ b c.look-2.ensures, ← h _ _ d c.look-3.ensures, ← h _ _ e c.look-4.ensures) c.four.ensures
