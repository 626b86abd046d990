-- `tokens::name_length`: sixteen, or less by the zeros at the end, of which the lowest set bit tells four at a time.
use mathlib.Core.Path.{sym}
use native.Mathlib.Omega.{arith}
use lib.Count.{trailing_le}
use Rattle.tokens.specs.Tokens.{name_of}
use Rattle.tokens.proofs.Names.{hex_length, token_length}
use Rattle.tokens.proofs.name_length.Goals as goal

pub overflow_sub-result : goal.overflow_sub-result
overflow_sub-result c = omega (arith, trailing_le 64 c.args.id)

pub returns-in-Digits : goal.returns-in-Digits
unfolding name_of
returns-in-Digits c = (rw c.in-Digits.is (sym (hex_length c.args.id)), omega arith)

pub returns-in-Token : goal.returns-in-Token
returns-in-Token c = (rw c.in-Token.is (token_length _ c.ranges.id.fits), omega arith)
