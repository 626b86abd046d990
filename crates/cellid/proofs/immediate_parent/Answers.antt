use Rattle.std.proofs.Common.{◌≡◌, ℕ, ◌+◌, ◌-◌, ◌*◌, ◌%◌, ◌^◌, ◌<◌, ap, ◌∙◌, ap₂, arith, pow_pos}
use lib.Bits.{bit_and, bit_or}
use Rattle.cellid.specs.CellId.{bit_at, place_at, level_of}
use Rattle.cellid.proofs.Laws.{parent_is, shl_two, cell_pos, low_cell, level_cell}
use Rattle.cellid.proofs.immediate_parent.Goals as goal

pub lsb-low-requires : goal.lsb-low-requires
lsb-low-requires c = cell_pos _ _ _ c.requires.2

pub returns : goal.returns
returns c = let id = c.args.id in
    let u = c.requires in
    let l : u.0 < 30 = omega (arith, u.2.level) in
    let low : (c.lsb-low.result * 2 ^ 2) % 2 ^ 64 ≡ bit_at u.0 = ap (λ (n : ℕ). (n * 2 ^ 2) % 2 ^ 64) (c.lsb-low.ensures ∙ low_cell id (u.0 + 1) u.1 u.2) ∙ shl_two u.0 l in
    let lv : level_of id - 1 ≡ u.0 = omega (arith, level_cell id (u.0 + 1) u.1 u.2) in
    let n : c.wrapping_neg.result ≡ 2 ^ 64 - bit_at u.0 = omega (arith, c.wrapping_neg.ensures, c.wrapping_neg.type_inv, low, pow_pos (place_at u.0)) in
    rw lv (ap₂ (λ (x y : ℕ). bit_or (bit_and id x) y) n low ∙ parent_is id u.0 (omega arith) c.ranges.id.fits)
