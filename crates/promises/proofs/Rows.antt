-- The rows P1 to P10 are right: one statement, by computing.
use mathlib.Core.Path.{refl}
use lib.Count.{count_trailing_zeros}
use lib.Ieee.{units, size, of_bits, to_bits}
use Rattle.root.specs.Root.{root, rooted, isqrt, root_in}
use Rattle.cellid.specs.CellId.{face_cell, child_of, low_bit, valid_id, level_of, place_of, id_of, parent_at, holds, first_leaf, last_leaf, common_level, deepest, same_at, one}
use Rattle.order.specs.Order.{All, insert, sort}
use Rattle.cellunion.specs.CellUnion.{normalise, pass, keep_cell, collapse, clear_of, is_four, rev}
use Rattle.denorm.specs.Denorm.{goal, denormalise, below, cells_from}
use Rattle.fast.specs.Fast.{adjusted, lifted, depth_of, pair_depth, best_of, joined, merged_in, merged_covering, fast_covering}
use Rattle.run.specs.Run.{full, cost_of}
use Rattle.promises.specs.Rows.{Right, table}

pub rows_right : All Right table
unfolding All table adjusted fast_covering merged_covering merged_in best_of pair_depth depth_of joined lifted sort insert normalise pass keep_cell collapse clear_of is_four rev denormalise below cells_from level_of place_of id_of parent_at holds first_leaf last_leaf common_level deepest same_at face_cell child_of low_bit count_trailing_zeros valid_id one goal full cost_of root rooted isqrt root_in units size of_bits to_bits
rows_right = (refl, (refl, (refl, (refl, (refl, (refl, (refl, (refl, (refl, (refl, (refl, (refl, (refl, tt)))))))))))))
