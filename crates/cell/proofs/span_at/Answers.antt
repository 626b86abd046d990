-- `cell::span_at` meets its contract.
use Rattle.cell.specs.Cell.{span_at}
use Prim.Native.Nat.{◌-◌}
use native.Mathlib.Omega.{arith}
use Rattle.cellid.proofs.Laws.{one_shl}
use Rattle.cell.proofs.Laws.{first_is, last_le}
use Rattle.cell.proofs.span_at.Goals as goal

pub line_at-requires : goal.line_at-requires
line_at-requires c = let s = 30 - c.args.level in omega (arith, first_is c.args.i s c.requires.0, last_le c.args.i s (omega arith) c.requires.0)

pub overflow_add-first : goal.overflow_add-first
overflow_add-first c = let s = 30 - c.args.level in omega (arith, first_is c.args.i s c.requires.0, one_shl s (omega arith), last_le c.args.i s (omega arith) c.requires.0)

pub line_at-requires-2 : goal.line_at-requires-2
line_at-requires-2 c = let s = 30 - c.args.level in omega (arith, first_is c.args.i s c.requires.0, one_shl s (omega arith), last_le c.args.i s (omega arith) c.requires.0)

pub returns : goal.returns
unfolding span_at
returns c = rw (c.line_at.ensures, c.line_at-2.ensures, first_is c.args.i (30 - c.args.level) c.requires.0, one_shl (30 - c.args.level) (omega arith))
