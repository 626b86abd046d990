-- `cell::ij_to_stmin` meets its contract.
use native.Mathlib.Omega.{arith}
use borrow.Author.Tests.{lt-ltb}
use Rattle.cell.specs.Cell.{ij_to_st_min}
use Rattle.cell.proofs.ij_to_stmin.Goals as goal

pub returns : goal.returns
unfolding ij_to_st_min
returns c = rw (lt-ltb c.args.i 0x8000_0000 (omega (arith, c.requires)))
