-- `text::read_digits`: the digits read so far spell the number so far.
use Rattle.text.specs.Text.{Spells}
use Rattle.text.proofs.read_digits.Given as goal

abbrev pub invariant-loop-i : goal.invariant-loop-i
invariant-loop-i l = Spells l.base l.line l.start l.i l.value
