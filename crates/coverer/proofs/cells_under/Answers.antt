-- `coverer::cells_under` meets its contract.
use Prim.Native.Nat.{◌*◌, ◌≤◌}
use Rattle.cellid.proofs.Laws.{low_le, one_shl}
use Rattle.coverer.specs.Engine.{brood_of}
use native.Mathlib.Omega.{arith}
use Rattle.coverer.proofs.cells_under.Goals as goal

pub overflow_sub-result : goal.overflow_sub-result
overflow_sub-result c = omega (arith, c.lsb-low.ensures, low_le c.args.r.id c.requires.id_nonzero (omega arith))

pub returns : goal.returns
unfolding brood_of
returns c =
    let few : c.args.n ≤ 3 = c.requires.n_bound in
    rw (c.lsb-low.ensures, c.from.ensures, one_shl (2 * c.args.n) (omega arith))
