-- `cap::held_square` meets its contract.
use mathlib.Core.Path.{refl}
use Prim.Native.Nat.{◌+◌}
use native.Mathlib.Omega.{arith}
use Rattle.cap.specs.Looks.{held_at}
use Rattle.cap.proofs.held_square.Goals as goal

pub overflow_add-result-2 : goal.overflow_add-result-2
overflow_add-result-2 c = let b = c.requires.1 in omega (arith, b c.args.at, b (c.args.at + 3))

pub overflow_add-result-4 : goal.overflow_add-result-4
overflow_add-result-4 c = let b = c.requires.1 in omega (arith, b c.args.at, b (c.args.at + 3), b (c.args.at + 4))

pub overflow_add-result-6 : goal.overflow_add-result-6
overflow_add-result-6 c = let b = c.requires.1 in omega (arith, b c.args.at, b (c.args.at + 3), b (c.args.at + 4), b (c.args.at + 1))

pub returns : goal.returns
unfolding held_at
returns c = refl
