-- `cell::lines_at` meets its contract.
use Prim.Native.Nat.{◌-◌}
use native.Mathlib.Omega.{arith}
use Rattle.cellid.proofs.Laws.{one_shl}
use Rattle.cell.specs.Siblings.{lines_at}
use Rattle.cell.proofs.Laws.{first_is, last_le}
use Rattle.cell.proofs.Siblings.{half_le}
use Rattle.cell.proofs.lines_at.Goals as goal

pub line_at-requires : goal.line_at-requires
line_at-requires c = omega (arith, first_is c.args.i (30 - c.args.level) c.requires.0, last_le c.args.i (30 - c.args.level) (omega arith) c.requires.0)

pub overflow_add-first : goal.overflow_add-first
overflow_add-first c = omega (arith, first_is c.args.i (30 - c.args.level) c.requires.0, last_le c.args.i (30 - c.args.level) (omega arith) c.requires.0, one_shl (29 - c.args.level) (omega arith), half_le c.args.level)

pub line_at-requires-2 : goal.line_at-requires-2
line_at-requires-2 c = omega (arith, first_is c.args.i (30 - c.args.level) c.requires.0, last_le c.args.i (30 - c.args.level) (omega arith) c.requires.0, one_shl (29 - c.args.level) (omega arith), half_le c.args.level)

pub overflow_add-first-2 : goal.overflow_add-first-2
overflow_add-first-2 c = omega (arith, first_is c.args.i (30 - c.args.level) c.requires.0, last_le c.args.i (30 - c.args.level) (omega arith) c.requires.0, one_shl (30 - c.args.level) (omega arith))

pub line_at-requires-3 : goal.line_at-requires-3
line_at-requires-3 c = omega (arith, first_is c.args.i (30 - c.args.level) c.requires.0, last_le c.args.i (30 - c.args.level) (omega arith) c.requires.0, one_shl (30 - c.args.level) (omega arith))

pub returns : goal.returns
unfolding lines_at
returns c =
    let f = first_is c.args.i (30 - c.args.level) c.requires.0 in
    let h = one_shl (29 - c.args.level) (omega arith) in
    let l = one_shl (30 - c.args.level) (omega arith) in
    cc
