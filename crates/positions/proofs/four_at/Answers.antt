-- `positions::four_at` meets its contract: each word is computed.
use native.Mathlib.Omega.{arith}
use Rattle.cellid.proofs.Laws.{last_arm}
use Rattle.turns.specs.Turns.{row_at}
use Rattle.turns.specs.Table.{by_row}
use Rattle.positions.specs.Positions.{step_of, pos_of, index_in}
use Rattle.positions.specs.Table.{steps_word, steps_from, four_steps}
use Rattle.positions.proofs.four_at.Goals as goal

pub returns-in_default : goal.returns-in_default
unfolding steps_word by_row steps_from four_steps step_of pos_of index_in row_at
returns-in_default c = rw (last_arm _ 255 (omega (arith, c.requires)) c.in_default.in_default-own.rest)
