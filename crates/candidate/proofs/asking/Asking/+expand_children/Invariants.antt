-- `expand_children`: the measure is the number of levels left; the loop has in `acc` the sets of the first k children.
use Prim.Native.Nat.{◌-◌, ◌*◌, ◌^◌, ◌≤◌}
use mathlib.Core.Path.{◌≡◌}
use Rattle.region.specs.Region.{area_of}
use Rattle.run.specs.Masks.{up_to, found_part}
use Rattle.candidate.specs.Candidate.{task_of}
use Rattle.candidate.proofs.asking.Asking.+expand_children.Given as goal

abbrev pub decreases-expand_children : goal.decreases-expand_children
decreases-expand_children l = l.left

abbrev pub invariant-loop-k : goal.invariant-loop-k
invariant-loop-k l = record { few : l.k ≤ 4; so_far : l.acc ≡ up_to (found_part (task_of l.fn.self.request (area_of l.fn.self.region)) (l.fn.left - 1)) (2 ^ (2 * (l.fn.left - 1))) l.fn.id l.k }
