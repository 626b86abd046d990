-- `turns::four_at` meets its contract: each word is computed.
use native.Mathlib.Omega.{arith}
use Rattle.cellid.proofs.Laws.{last_arm}
use Rattle.turns.specs.Turns.{turn_of, ij_at, row_at}
use Rattle.turns.specs.Table.{turns_word, by_row, turns_from, four_turns}
use Rattle.turns.proofs.four_at.Goals as goal

pub returns-in_default : goal.returns-in_default
unfolding turns_word by_row turns_from four_turns turn_of ij_at row_at
returns-in_default c = rw (last_arm _ 255 (omega (arith, c.requires)) c.in_default.in_default-own.rest)
