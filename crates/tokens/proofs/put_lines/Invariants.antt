-- `tokens::put_lines`: the lines that are left, put over the text as it is now, make the text that is wanted.
use lib.ListN.{drop}
use Rattle.cellid.proofs.Puts.{Put}
use Rattle.tokens.specs.Tokens.{lines_of}
use Rattle.tokens.proofs.put_lines.Given as goal

abbrev pub invariant-loop-id : goal.invariant-loop-id
invariant-loop-id l = Put l.at 0 (lines_of l.form (drop l.id-index l.ids)) (lines_of l.form l.ids) l.text l.initial.text
