use native.Mathlib.Omega.{arith}
use Rattle.cellid.proofs.Laws.{cell_pos, low_small}
use Rattle.cellunion.proofs.Mask.{mask_code}
use Rattle.cellunion.proofs.sibling_mask.Goals as goal

pub lsb-mask-requires : goal.lsb-mask-requires
lsb-mask-requires c = cell_pos _ _ _ c.requires.2

pub overflow_add-result : goal.overflow_add-result
overflow_add-result c = omega (arith, low_small _ c.requires, c.lsb-mask.ensures)

pub returns : goal.returns
returns c = mask_code _ _ c.lsb-mask.ensures (low_small _ c.requires)
