use mathlib.Core.Path.{◌∙◌, ap}
use Prim.Native.Nat.{ℕ, ◌-◌, ◌*◌, ◌/◌, ◌%◌, ◌^◌}
use lib.Bits.{bit_and, and_mask}
use Rattle.hilbert.proofs.four_positions.Goals as goal

pub returns : goal.returns
returns c =
    let k = c.args.k in
    and_mask (bit_and (c.args.id / 2 ^ 1) (2 ^ 60 - 1) / 2 ^ (8 * k)) 8 ∙ ap (λ (x : ℕ). x / 2 ^ (8 * k) % 2 ^ 8) (and_mask (c.args.id / 2 ^ 1) 60)
