-- `coverer::full_of` meets its contract.
use Prim.Native.Nat.{◌*◌, ◌≤◌}
use Rattle.cellid.proofs.Laws.{one_shl}
use Rattle.run.specs.Run.{level_mod, full}
use lib.Pow.{pow_mono}
use native.Mathlib.Omega.{arith}
use Rattle.coverer.proofs.full_of.Goals as goal

pub returns : goal.returns
unfolding full
returns c =
    let q = c.args.q in
    let few : level_mod q ≤ 3 = c.requires in
    (rw (one_shl (2 * level_mod q) (omega arith)), rw (one_shl (2 * level_mod q) (omega arith)) (pow_mono {i = 2 * level_mod q} {j = 6} (omega arith)))
