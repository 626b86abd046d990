-- Paper 02's row: six faces become one pair, and the way back; and that these are the whole sphere.
use mathlib.Core.Path.{◌≡◌, refl, sym, ap, ◌∙◌}
use mathlib.Core.Bool.{true}
use mathlib.Core.List.{List, [], ◌∷◌}
use Prim.Native.Nat.{ℕ, ◌+◌, ◌*◌, ◌<◌}
use native.Mathlib.Omega.{arith}
use lib.Count.{count_trailing_zeros}
use borrow.Author.Tests.{le-leb}
use Rattle.cellid.specs.CellId.{Cell, valid_id, face_cell, six_faces, first_leaf, last_leaf, low_bit}
use Rattle.order.specs.Order.{All}
use Rattle.cellunion.specs.CellUnion.{covers, normalise, listed, list_from, is_list}
use Rattle.cellunion.proofs.Lists.{is_list_lem}
use Rattle.ranges.specs.Ranges.{leaves, pair_before, pairs_of, in_pairs, follows, pairs_from, fits, size_from, size, tile_by, tile, each_pair, cells_of, fitted, result_of, pairs_result, cells_result}
use Rattle.std.specs.Prelude.{Ok}
use Rattle.ranges.proofs.Laws.{list_leaves, there_and_back}

-- "Six faces become one pair, 0x0000000000000001 to 0xbfffffffffffffff."
pub six_faces_lem : pairs_result six_faces 2 ≡ Ok (0x0000000000000001 ∷ 0xbfffffffffffffff ∷ [])
unfolding six_faces face_cell pairs_result result_of fitted listed list_from valid_id first_leaf last_leaf low_bit count_trailing_zeros pairs_of pair_before
six_faces_lem = refl

-- and are the cells of that pair
pub one_pair : cells_result (0x0000000000000001 ∷ 0xbfffffffffffffff ∷ []) 6 ≡ Ok six_faces
unfolding six_faces face_cell cells_result result_of fitted follows pairs_from each_pair tile tile_by size size_from fits
one_pair = refl

-- ---- the whole sphere

faces_list : is_list six_faces ≡ true
unfolding six_faces face_cell listed list_from valid_id first_leaf last_leaf low_bit count_trailing_zeros
faces_list = refl

faces_pairs : pairs_of six_faces ≡ 0x0000000000000001 ∷ 0xbfffffffffffffff ∷ []
unfolding six_faces face_cell first_leaf last_leaf low_bit count_trailing_zeros pairs_of pair_before
faces_pairs = refl

pub faces_cells : All Cell six_faces
faces_cells = ((is_list_lem six_faces).0 faces_list).0

-- every leaf lies under it
pub faces_leaves : (n : ℕ) → n < leaves → covers six_faces n ≡ true
unfolding in_pairs
faces_leaves n h = sym (list_leaves six_faces faces_list n) ∙ ap (λ (ps : List ℕ). in_pairs ps n) faces_pairs ∙ rw (le-leb 1 (2 * n + 1) (omega arith), le-leb (2 * n + 1) 0xbfffffffffffffff (omega arith))

-- and they are normal
pub faces_normal : normalise six_faces ≡ six_faces
unfolding six_faces face_cell each_pair tile tile_by size size_from fits
faces_normal = sym (there_and_back six_faces faces_list) ∙ ap cells_of faces_pairs
