-- `fast::fast_covering` meets its contract: the bound, in the memory's first words, is what is covered. Assumes nothing.
use Rattle.region.proofs.Laws.{bound_cells}
use Rattle.fast.proofs.Regions.{bounded, bounded_cells, fast_gives}
use Rattle.fast.proofs.fast_covering.Goals as goal

pub normalize_covering-requires : goal.normalize_covering-requires
normalize_covering-requires c =
    (c.requires.0, bounded_cells c.args.c _ _ _ _ (bounded _ _ _ _ c.requires.1 c.requires.2 c.cell_union_bound-n.ensures) (bound_cells _ c.requires.1))

pub returns : goal.returns
returns c =
    let r = fast_gives c.args.c _ _ _ _ (bounded _ _ _ _ c.requires.1 c.requires.2 c.cell_union_bound-n.ensures) _ _ _ _ c.normalize_covering.ensures in record { value = r.0; mem_after = r.1 }
