-- `fast::Numbers::start_cells` meets its contract: the list is merged to a rough covering, and that is adjusted. Assumes nothing.
use Rattle.fast.proofs.StartTurns.{starts_done, adjust_asks, starts_adjusted_done}
use Rattle.fast.proofs.numbers.Numbers.start_cells.Goals as goal

pub merge_covering-k-requires : goal.merge_covering-k-requires
merge_covering-k-requires c = c.requires

pub returns-then-self-le1 : goal.returns-then-self-le1
returns-then-self-le1 c =
    starts_done _ _ _ _ _ _ c.requires.0 c.requires.1 _ _ _ c.min.ensures c.merge_covering-k.ensures.0 c.merge_covering-k.ensures.1 c.if-self-le1.true

pub adjust_cell_levels-requires : goal.adjust_cell_levels-requires
adjust_cell_levels-requires c =
    (adjust_asks c.args.self.coverer.min_level _ c.args.self.coverer.level_mod _ _ _ c.requires.0 c.requires.1 _ _ _ c.min.ensures c.merge_covering-k.ensures.0 c.merge_covering-k.ensures.1)

pub returns-else-self-le1 : goal.returns-else-self-le1
returns-else-self-le1 c =
    starts_adjusted_done _ _ _ _ _ _ c.requires.0 c.requires.1 _ _ _ c.min.ensures c.merge_covering-k.ensures.0 c.merge_covering-k.ensures.1 c.if-self-le1.false _ _ c.adjust_cell_levels.ensures.0 c.adjust_cell_levels.ensures.1
