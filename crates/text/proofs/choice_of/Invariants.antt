-- `text::choice_of`: the choice among those that are left is the choice among all.
use Rattle.std.proofs.Common.{◌≡◌, drop}
use Rattle.text.specs.Text.{choice_of}
use Rattle.text.proofs.choice_of.Given as goal

abbrev pub invariant-loop-choice : goal.invariant-loop-choice
invariant-loop-choice g l = choice_of l.choices l.words 0 l.word ≡ choice_of (drop l.choice-index l.choices) l.words l.at l.word
