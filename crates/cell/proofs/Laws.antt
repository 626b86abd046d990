-- Facts on numbers behind the functions, and what the definitions promise.
use mathlib.Core.Path.{◌≡◌, sym, ap, ◌∙◌}
use Prim.Native.Nat.{ℕ, ◌+◌, ◌-◌, ◌*◌, ◌/◌, ◌%◌, ◌^◌, ◌≤◌, ◌<◌}
use native.Mathlib.Nat.{div-mul-le_self, mod-eq_of_lt, div-lt_iff_lt-mul, mul-le-mul_right}
use native.Mathlib.Omega.{arith}
use lib.Pow.{pow-add, pow_pos}
use Rattle.cellid.specs.CellId as CellId
use Rattle.cell.specs.Cell.{cell_of}
use Rattle.hilbert.proofs.Laws.{face_ij_in}

-- a shift down and up again
pub first_is : (i s : ℕ) → i < 2 ^ 30 → i / 2 ^ s * 2 ^ s % 2 ^ 64 ≡ i / 2 ^ s * 2 ^ s
first_is i s h = mod-eq_of_lt (omega (arith, div-mul-le_self i (2 ^ s)))

-- the cell of a leaf below 2 ^ 30 ends at 2 ^ 30 at the latest
pub last_le : (i s : ℕ) → s ≤ 30 → i < 2 ^ 30 → i / 2 ^ s * 2 ^ s + 2 ^ s ≤ 2 ^ 30
last_le i s l h = go (30 - s) (omega arith)
  where
    more : (q w n : ℕ) → (q + 1) * w ≤ n → q * w + w ≤ n
    more q w n h = omega arith

    go : (t : ℕ) → t + s ≡ 30 → i / 2 ^ s * 2 ^ s + 2 ^ s ≤ 2 ^ 30
    go t e =
        let p : 2 ^ 30 ≡ 2 ^ t * 2 ^ s = ap (λ (n : ℕ). 2 ^ n) (sym e) ∙ pow-add 2 t s in
        let q : i / 2 ^ s < 2 ^ t = (div-lt_iff_lt-mul (pow_pos s)).1 (rw (← p) h) in
        let m : (i / 2 ^ s + 1) * 2 ^ s ≤ 2 ^ t * 2 ^ s = mul-le-mul_right (2 ^ s) (omega (arith, q)) in
        more (i / 2 ^ s) (2 ^ s) (2 ^ 30) (rw (sym p) at m)

-- a cell's face is one of six
pub cell_face : (id : ℕ) → CellId.Cell id → (cell_of id).face < 6
unfolding cell_of
cell_face id h = (face_ij_in id h).face
