-- `fast::normalize_covering` meets its contract: the merged list in memory is denormalised. Assumes nothing.
use mathlib.Core.Path.{sym, ap, ◌∙◌}
use mathlib.Core.List.{List}
use Prim.Native.Nat.{ℕ}
use native.Mathlib.Nat.{le_trans}
use lib.Seq.{length-take-le}
use Rattle.cellunion.specs.Memory.{room_for, laid_over}
use Rattle.fast.proofs.Turns.{covering_asks, covering_fast}
use Rattle.fast.proofs.normalize_covering.Goals as goal

pub merge_covering-k-requires : goal.merge_covering-k-requires
merge_covering-k-requires c = c.requires.1

pub slice_bounds-denormalize-end : goal.slice_bounds-denormalize-end
slice_bounds-denormalize-end c = (covering_asks _ _ _ _ _ _ c.requires.1.0 c.requires.1.1 c.requires.0.ordered _ _ c.merge_covering-k.ensures.0 c.merge_covering-k.ensures.1).0

pub slice_bounds-denormalize-end-2 : goal.slice_bounds-denormalize-end-2
slice_bounds-denormalize-end-2 c =
    sym (length-take-le _ _ (covering_asks _ _ _ _ _ _ c.requires.1.0 c.requires.1.1 c.requires.0.ordered _ _ c.merge_covering-k.ensures.0 c.merge_covering-k.ensures.1).0)

pub denormalize-requires : goal.denormalize-requires
denormalize-requires c =
    let d = c.requires.0 in
    let a = covering_asks _ _ _ _ _ _ c.requires.1.0 c.requires.1.1 d.ordered _ _ c.merge_covering-k.ensures.0 c.merge_covering-k.ensures.1 in
    (a.1, le_trans d.ordered d.deep, d.some)

pub returns : goal.returns
returns c =
    let out = c.args.out.now in
    let e = covering_fast _ _ _ _ _ _ c.requires.1.0 c.requires.1.1 c.requires.0.ordered _ _ c.merge_covering-k.ensures.0 c.merge_covering-k.ensures.1 in (
      c.denormalize.ensures.0 ∙ ap (λ (l : List ℕ). room_for l out) e,
      c.denormalize.ensures.1 ∙ ap (λ (l : List ℕ). laid_over l out) e,
      c.merge_covering-k.ensures.1,
    )
