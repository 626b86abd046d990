-- `fast::starts` meets its contract: the bound, in the memory's first words, becomes the start cells, and these are copied. Assumes nothing.
use mathlib.Core.Path.{refl}
use Rattle.cellunion.specs.Memory.{zeros}
use Rattle.region.proofs.Laws.{bound_cells}
use Rattle.fast.proofs.Regions.{bounded, bounded_cells, six_asks, starts_give}
use Rattle.fast.proofs.starts.Goals as goal

pub start_cells-count-requires : goal.start_cells-count-requires
start_cells-count-requires c =
    (bounded_cells c.args.c _ _ _ _ (bounded _ _ _ _ c.requires.1 c.requires.2 c.cell_union_bound-n.ensures) (bound_cells _ c.requires.1))

pub copy-requires : goal.copy-requires
unfolding zeros
copy-requires c =
    let B = bounded _ _ _ _ c.requires.1 c.requires.2 c.cell_union_bound-n.ensures in
    six_asks _ _ c.requires.0 c.requires.1 _ _ _ _ _ B c.start_cells-count.ensures _ refl

pub returns : goal.returns
unfolding zeros
returns c =
    let B = bounded _ _ _ _ c.requires.1 c.requires.2 c.cell_union_bound-n.ensures in
    let r = starts_give _ _ c.requires.0 c.requires.1 _ _ _ _ _ B c.start_cells-count.ensures _ refl _ c.copy.ensures in record { count_value = r.0; mem_after = r.1 }
