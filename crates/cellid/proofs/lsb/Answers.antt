-- lsb
use Rattle.std.proofs.Common.{◌≡◌, ◌-◌, ◌^◌, ap, ◌∙◌, arith}
use lib.Bits.{bit_and}
use Rattle.cellid.proofs.Laws.{low_and}
use Rattle.cellid.proofs.lsb.Goals as goal

pub returns : goal.returns
returns c =
    let e : c.wrapping_neg.result ≡ 2 ^ 64 - c.args.id = omega (arith, c.wrapping_neg.ensures, c.wrapping_neg.type_inv) in
    ap (bit_and c.args.id) e ∙ low_and c.args.id c.requires c.ranges.id.fits
