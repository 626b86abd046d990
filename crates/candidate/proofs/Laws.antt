-- Laws of candidates and of the machine's masks.
use mathlib.Core.Path.{◌≡◌}
use Prim.Native.Nat.{ℕ, ◌+◌, ◌-◌, ◌*◌, ◌%◌, ◌^◌, ◌≤◌, ◌<◌}
use native.Mathlib.Nat.{mul-le-mul_right}
use native.Mathlib.Omega.{arith}
use lib.Pow.{pow_mono, shl_exact}
use lib.Bits.{bit_or, or_shifted_r}
use Rattle.cellid.specs.CellId.{Cell, level_of, child_of}
use Rattle.cellid.proofs.Leaves.{child_cell}
use Rattle.cellid.proofs.Laws.{cell_pos, level_cell, one_shl}
use Rattle.run.specs.Run.{Task}
use Rattle.run.specs.Masks.{up_to, found_part}
use Rattle.run.proofs.Masks.{Small, part_small, up_small}
use Rattle.candidate.specs.Candidate.{Roomy}

pub positive : (id : ℕ) → Cell id → 0 < id
positive id c = cell_pos id c.0 c.1 c.2

-- a child of a cell with levels left beneath it
pub child_of_lem : (id k left : ℕ) → Cell id → k < 4 → 0 < left → level_of id + left ≤ 30 → Cell (child_of id k) × (level_of (child_of id k) + (left - 1) ≤ 30)
child_of_lem id k left c g s h =
    let l : level_of id ≡ c.0 = level_cell id c.0 c.1 c.2 in
    let d = child_cell k c.2 (omega arith) g in
    ((c.0 + 1, 4 * c.1 + k, d), omega (arith, level_cell (child_of id k) (c.0 + 1) (4 * c.1 + k) d))

-- ---- the machine's masks

pub shift_lt : (w k : ℕ) → w ≤ 16 → k < 4 → w * k < 64
shift_lt w k h g = omega (arith, mul-le-mul_right k h)

pub mask_or : (a f w k : ℕ) → w ≤ 16 → k < 4 → f < 2 ^ w → a < 2 ^ (w * k) → bit_or a ((f * 2 ^ (w * k)) % 2 ^ 64) ≡ f * 2 ^ (w * k) + a
mask_or a f w k h g hf ha = rw (shl_exact {a = f} w (w * k) 64 hf (omega (arith, mul-le-mul_right k h))) (or_shifted_r f (w * k) a ha)

pub width_is : (n : ℕ) → n ≤ 2 → (1 * 2 ^ (2 * n)) % 2 ^ 64 ≡ 2 ^ (2 * n)
width_is n h = one_shl (2 * n) (omega arith)

pub roomy : (T : Task) (n id k : ℕ) → n ≤ 2 → k < 4
    → Roomy (up_to (found_part T n) (2 ^ (2 * n)) id k) (found_part T n (child_of id k)) (2 ^ (2 * n)) k
roomy T n id k h g =
    let part : (j : ℕ) → j < 4 → Small (2 ^ (2 * n)) (found_part T n (child_of id j)) =
    λ j l. part_small T n (child_of id j) in
    let a = up_small (found_part T n) (2 ^ (2 * n)) id part k (omega arith) in
    record {
      wide = pow_mono {i = 2 * n} {j = 4} (omega arith);
      four = g;
      present = (part k g).present;
      terminal = (part k g).terminal;
      presents = a.present;
      terminals = a.terminal;
    }
