-- `coverer::is_in` meets its contract.
use Prim.Native.Nat.{◌/◌, ◌^◌}
use lib.Bits.{and_mask}
use Rattle.coverer.proofs.is_in.Goals as goal

pub returns : goal.returns
returns c = rw (and_mask (c.args.set / 2 ^ c.args.j) 1)
