use Rattle.std.proofs.Common.{◌≡◌, ℕ, ◌-◌, ◌*◌, ◌^◌, ◌∙◌, ap₂, arith, pow_pos}
use lib.Bits.{bit_and, bit_or}
use Rattle.cellid.specs.CellId.{bit_at}
use Rattle.cellid.proofs.Laws.{parent_is}
use Rattle.cellid.proofs.parent.Goals as goal

pub returns : goal.returns
returns c =
    let id = c.args.id in
    let L = c.args.level in
    let low = c.lsb_for_level-low.result in
    let e : low ≡ bit_at L = c.lsb_for_level-low.ensures in
    let n : c.wrapping_neg.result ≡ 2 ^ 64 - bit_at L = omega (arith, c.wrapping_neg.ensures, c.wrapping_neg.type_inv, e, pow_pos (2 * (30 - L))) in
    ap₂ (λ (x y : ℕ). bit_or (bit_and id x) y) n e ∙ parent_is id L c.requires c.ranges.id.fits
