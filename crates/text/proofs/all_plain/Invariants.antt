-- `text::all_plain`: what was seen and what is left are all.
use Rattle.std.proofs.Common.{◌≡◌, ◌&&◌, drop}
use Rattle.text.specs.Text.{all_plain}
use Rattle.text.proofs.all_plain.Given as goal

abbrev pub invariant-loop-b : goal.invariant-loop-b
invariant-loop-b l = all_plain l.line ≡ (l.plain && all_plain (drop l.b-index l.line))
