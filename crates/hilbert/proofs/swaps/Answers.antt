use Rattle.cellid.proofs.Laws.{cell_pos}
use Rattle.hilbert.proofs.Laws.{swaps_bit}
use Rattle.hilbert.proofs.swaps.Goals as goal

pub lsb-requires : goal.lsb-requires
lsb-requires c = cell_pos _ _ _ c.requires.2

pub returns : goal.returns
returns c = rw c.lsb.ensures (swaps_bit _ c.requires)
