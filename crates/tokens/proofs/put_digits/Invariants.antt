-- `tokens::put_digits`: the digits that are left, over what stands there, are all.
use mathlib.Core.Path.{◌≡◌}
use lib.Seq.{sets}
use Rattle.io.specs.Digits.{last_digits}
use Rattle.tokens.proofs.put_digits.Given as goal

abbrev pub invariant-loop-left : goal.invariant-loop-left
invariant-loop-left l = sets l.initial.text l.at (last_digits 16 l.k l.n) ≡ sets l.text l.at (last_digits 16 l.left l.rest)
