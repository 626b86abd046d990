-- `Job::hand_on` meets its contract.
use Rattle.run.specs.declared.Request.{Request}
use Prim.Native.Nat.{ℕ, ◌+◌, ◌-◌, ◌*◌, ◌≤◌}
use Rattle.candidate.specs.Candidate.{task_of, Asks}
use Rattle.cellid.proofs.Laws.{cell_pos}
use Rattle.cellid.specs.CellId.{leaves_of}
use Rattle.coverer.proofs.Adds.{domain}
use Rattle.coverer.proofs.Steps.{depth_le, Broods, brood_room, brood_failed_le, brood_from, brood_places, brood_ok, brood_leaves, hands}
use Rattle.coverer.specs.Engine.{children_from, leaves_in, brood_of, Taken}
use Rattle.coverer.specs.declared.Brood.{Brood}
use Rattle.records.specs.declared.Rec.{Rec}
use Rattle.region.specs.Region.{Area}
use Rattle.run.specs.Run.{depth}
use lib.Count.{ones}
use mathlib.Core.Path.{◌≡◌}
use native.Mathlib.Omega.{arith}
use Rattle.coverer.proofs.Job.hand_on.Goals as goal

made : (q : Request) (a : Area) (A : Asks q a) (r : Rec) (n k : ℕ) (b : Brood) → Taken (task_of q a) r → n ≡ depth q r.id → k ≡ ones r.present → b ≡ brood_of n r
    → Broods (task_of q a) (domain q a A) r n k b
made q a A r n k b Q en ek eb = record { taken = Q; levels = en; count = ek; is = eb }

pub cells_under-b-requires : goal.cells_under-b-requires
cells_under-b-requires c =
    let A = c.args.self.asking.asks in
    let few : depth (c.args.self.asking.request) c.args.r.id ≤ 3 = depth_le (c.args.self.asking.request) c.args.r.id A.some A.few in
    record {
      id_nonzero = cell_pos _ _ _ c.requires.taken.cell.fit.cell;
      n_bound = omega (arith, c.levels_under.ensures);
    }

pub overflow_sub-failed : goal.overflow_sub-failed
overflow_sub-failed c =
    let h : c.args.children ≤ c.cells_under-b.result.places = brood_room _ _ _ _ _ _ (made _ _ c.args.self.asking.asks _ _ _ _ c.requires.taken c.levels_under.ensures c.requires.children_value c.cells_under-b.ensures) in
    omega arith

pub overflow_mul-failed : goal.overflow_mul-failed
overflow_mul-failed c =
    let h : (c.cells_under-b.result.places - c.args.children) * c.cells_under-b.result.unit ≤ leaves_of c.args.r.id = brood_failed_le _ _ _ _ _ _ (made _ _ c.args.self.asking.asks _ _ _ _ c.requires.taken c.levels_under.ensures c.requires.children_value c.cells_under-b.ensures) in
    omega (arith, c.requires.aside_fits)

pub set_aside-requires : goal.set_aside-requires
set_aside-requires c =
    let h : (c.cells_under-b.result.places - c.args.children) * c.cells_under-b.result.unit ≤ leaves_of c.args.r.id = brood_failed_le _ _ _ _ _ _ (made _ _ c.args.self.asking.asks _ _ _ _ c.requires.taken c.levels_under.ensures c.requires.children_value c.cells_under-b.ensures) in
    omega (arith, c.requires.aside_fits)

pub add_children-requires : goal.add_children-requires
add_children-requires c =
    let A = c.args.self.asking.asks in
    let B = made _ _ c.args.self.asking.asks _ _ _ _ c.requires.taken c.levels_under.ensures c.requires.children_value c.cells_under-b.ensures in
    let h : c.set_aside.result.aside + leaves_in (children_from c.cells_under-b.result 0) ≤ c.args.t.aside + leaves_of c.args.r.id = brood_leaves _ _ _ _ _ _ B _ _ c.set_aside.ensures in
    record {
      places_bound = (brood_places _ _ _ _ _ _ B A.some A.few, omega (arith, brood_from _ _ _ _ _ _ B, c.requires.taken.place));
      all = brood_ok _ _ _ _ _ _ B;
      aside_fits = omega (arith, c.requires.aside_fits);
    }

pub returns : goal.returns
returns c =
    hands _ _ _ _ _ _ (made _ _ c.args.self.asking.asks _ _ _ _ c.requires.taken c.levels_under.ensures c.requires.children_value c.cells_under-b.ensures) _ _ _ _ _ _ c.set_aside.ensures c.add_children.ensures
