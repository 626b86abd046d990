use mathlib.Core.Path.{◌≡◌}
use Prim.Native.Nat.{◌-◌, ◌≤◌}
use native.Mathlib.Omega.{arith}
use lib.ListN.{length, take}
use Rattle.fast.specs.Fast.{best_of}
use Rattle.fast.proofs.Merging.{merged_short, merged_stop}
use Rattle.fast.proofs.Scan.{scan_start, pair_cells, scan_pass, scan_better, scan_worse, scan_done}
use Rattle.fast.proofs.Turns.{going_start, going_size, going_done, scanned, turn_place, turn_level, turn_wide, going_turn}
use Rattle.fast.proofs.numbers.Numbers.merge.Goals.{After-scan, In-merge, then-a-b+then-best-d, then-a-b+else-best-d, else-a-b}
use Rattle.fast.proofs.numbers.Numbers.merge.Goals as goal

-- the best pair of the whole list
best : (h : After-scan) →
    let at = h in
    let a = at.args in
    h.scan.best ≡ best_of a.self.coverer.min_level a.self.coverer.level_mod (take at.merge.k at.merge.mem) (length (take at.merge.k at.merge.mem) - 1)
best h = let at = h in scanned _ _ _ _ _ _ _ at.merge.invariant _ (scan_done _ _ _ _ _ _ _ h.scan.invariant (omega (arith, h.scan-test.false)))

room : (h : In-merge) → h.merge.k ≤ length h.merge.mem
room h = let G = h.merge.invariant in omega (arith, G.within, G.len, G.room)

pub merge-init : goal.merge-init
merge-init c = going_start _ _ _ _ _ c.requires.0 c.requires.1

pub scan-init : goal.scan-init
scan-init c = scan_start _ _ _ _

pub offset_bounds-mem-i : goal.offset_bounds-mem-i
offset_bounds-mem-i c = omega (arith, room (goal.at.offset_bounds-mem-i c).In-merge)

pub bounds-mem-i : goal.bounds-mem-i
bounds-mem-i c = omega (arith, room (goal.at.bounds-mem-i c).In-merge)

pub overflow_add-b : goal.overflow_add-b
overflow_add-b c = omega (arith, room (goal.at.overflow_add-b c).In-merge)

pub offset_bounds-mem-i-in-scan : goal.offset_bounds-mem-i-in-scan
offset_bounds-mem-i-in-scan c = omega (arith, room (goal.at.offset_bounds-mem-i-in-scan c).In-merge)

pub bounds-mem-i-in-scan : goal.bounds-mem-i-in-scan
bounds-mem-i-in-scan c = omega (arith, room (goal.at.bounds-mem-i-in-scan c).In-merge)

pub depth-d-requires : goal.depth-d-requires
depth-d-requires c =
    let N = c.merge.invariant.normal in
    let C = pair_cells c.args.self.coverer.min_level c.args.self.coverer.level_mod c.args.self.fit.some _ _ (room (goal.at.depth-d-requires c).In-merge) N.cells N.apart _ _ _ c.scan.invariant (omega (arith, c.scan-test.true)) in
    C

pub scan-preserved : goal.scan-preserved
scan-preserved c =
    let N = c.merge.invariant.normal in
    let R = room (goal.at.scan-preserved c).In-merge in
    elim c.if-a-b.branch [
      | then-a-b+then-best-d w ↦ rw (w.best-is, w.least-is) (scan_better _ _ c.args.self.fit.some _ _ R N.cells N.apart _ _ _ c.scan.invariant (omega (arith, c.scan-test.true)) _ w.depth-d.ensures w.if-best-d.true)
      | then-a-b+else-best-d w ↦ rw (w.best-is, w.least-is) (scan_worse _ _ c.args.self.fit.some _ _ R N.cells N.apart _ _ _ c.scan.invariant (omega (arith, c.scan-test.true)) _ w.depth-d.ensures w.if-best-d.false)
      | else-a-b w ↦ rw (w.best-is, w.least-is) (scan_pass _ _ c.args.self.fit.some _ _ R N.cells N.apart _ _ _ c.scan.invariant (omega (arith, c.scan-test.true)) w.if-a-b.false)
    ]

pub offset_bounds-mem-at : goal.offset_bounds-mem-at
offset_bounds-mem-at c = omega (arith, turn_place _ _ _ _ _ _ _ c.merge.invariant _ (best (goal.at.offset_bounds-mem-at c).After-scan) c.if-deepest-low.false, room (goal.at.offset_bounds-mem-at c).In-merge)

pub bounds-mem-at : goal.bounds-mem-at
bounds-mem-at c = omega (arith, turn_place _ _ _ _ _ _ _ c.merge.invariant _ (best (goal.at.bounds-mem-at c).After-scan) c.if-deepest-low.false, room (goal.at.bounds-mem-at c).In-merge)

pub overflow_sub-deepest : goal.overflow_sub-deepest
overflow_sub-deepest c = omega (arith, c.if-deepest-low.false)

pub parent-wide-requires : goal.parent-wide-requires
parent-wide-requires c = omega (arith, turn_level _ _ _ _ _ _ _ c.merge.invariant _ (best (goal.at.parent-wide-requires c).After-scan) c.if-deepest-low.false)

pub widen-k-requires : goal.widen-k-requires
widen-k-requires c =
    let w = turn_wide _ _ _ _ _ _ _ c.merge.invariant _ (best (goal.at.widen-k-requires c).After-scan) c.if-deepest-low.false _ c.parent-wide.ensures in
    (room (goal.at.widen-k-requires c).In-merge, c.merge.invariant.normal, omega (arith, turn_place _ _ _ _ _ _ _ c.merge.invariant _ (best (goal.at.widen-k-requires c).After-scan) c.if-deepest-low.false), w.0, w.1)

pub merge-smaller : goal.merge-smaller
merge-smaller c =
    (going_turn _ _ _ _ _ _ _ c.merge.invariant _ (best (goal.at.merge-smaller c).After-scan) c.if-deepest-low.false _ c.parent-wide.ensures _ _ c.merge-test.true c.widen-k.ensures.0 c.widen-k.ensures.1).0

pub merge-preserved : goal.merge-preserved
merge-preserved c =
    (going_turn _ _ _ _ _ _ _ c.merge.invariant _ (best (goal.at.merge-preserved c).After-scan) c.if-deepest-low.false _ c.parent-wide.ensures _ _ c.merge-test.true c.widen-k.ensures.0 c.widen-k.ensures.1).1

pub shape_of-mem-after-merge : goal.shape_of-mem-after-merge
shape_of-mem-after-merge c = c.merge.invariant.len

pub returns-after-merge : goal.returns-after-merge
returns-after-merge c =
    let G = c.merge.invariant in
    going_done _ _ _ _ _ _ _ G (merged_short _ _ _ G.fuel _ (omega (arith, going_size _ _ _ _ _ _ _ G, c.merge-test.false)))

pub shape_of-mem-then-deepest-low : goal.shape_of-mem-then-deepest-low
shape_of-mem-then-deepest-low c = c.merge.invariant.len

pub returns-then-deepest-low : goal.returns-then-deepest-low
returns-then-deepest-low c =
    let G = c.merge.invariant in
    going_done _ _ _ _ _ _ _ G (merged_stop _ _ _ G.fuel _ (rw (← best (goal.at.returns-then-deepest-low c).After-scan) c.if-deepest-low.true))
