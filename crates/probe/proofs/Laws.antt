-- What the tests give that stand before the layers' functions.
use mathlib.Core.Path.{◌≡◌, sym, ◌∙◌}
use mathlib.Core.Bool.{Bool, true}
use mathlib.Core.List.{List, [], ◌∷◌}
use Prim.Native.Nat.{ℕ, ◌+◌, ◌<◌}
use native.Mathlib.Numerals.{add-one}
use native.Mathlib.Omega.{arith}
use lib.ListN.{length, take, get_or}
use lib.Seq.{take-suc}
use Rattle.cellid.specs.CellId.{Cell, valid_id, level_of, face_cell}
use Rattle.cellid.proofs.Laws.{valid_is}
use Rattle.cellid.proofs.Parts.{face_cell_lem}
use Rattle.order.specs.Order.{All}
use Rattle.order.proofs.OrderLaws.{all_append}
use Rattle.fast.specs.Memory.{Cells}

-- an id that passed the test for valid ones is a cell's
pub tested_cell : (id : ℕ) {b : Bool} → b ≡ valid_id id → b ≡ true → Cell id
tested_cell id e t = valid_is id (sym e ∙ t)

pub is_face : Cell 0x1000_0000_0000_0000
unfolding face_cell
is_face = (0, 0, face_cell_lem 0 (omega arith))

-- a level above that of a cell is below 30
pub above : (id level k : ℕ) → k ≡ level_of id → level < k → level < 30
unfolding level_of
above id level k e h = omega arith

pub cells_none : (m : List ℕ) → Cells 0 m
unfolding All
cells_none m = (omega arith, tt)

pub cells_more : (m : List ℕ) (i : ℕ) {b : Bool} → i < length m → Cells i m → b ≡ valid_id (get_or m i 0) → b ≡ true → Cells (i + 1) m
unfolding All
cells_more m i h a e t = (omega arith, rw (add-one i, take-suc m i 0 h) (all_append Cell (take i m) (get_or m i 0 ∷ []) a.1 (tested_cell _ e t, tt)))
