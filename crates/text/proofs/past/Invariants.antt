-- `text::past`: what is left of the run from the present place is the rest of the whole run.
use Rattle.std.proofs.Common.{◌≡◌, ◌+◌, drop}
use Rattle.text.specs.Text.{leading}
use Rattle.text.proofs.past.Given as goal

abbrev pub invariant-loop-i : goal.invariant-loop-i
invariant-loop-i l = l.at + leading l.blank (drop l.at l.line) ≡ l.i + leading l.blank (drop l.i l.line)
