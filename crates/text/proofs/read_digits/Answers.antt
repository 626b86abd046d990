use Rattle.std.proofs.Common.{◌+◌, ◌*◌, ◌^◌, ◌<◌, arith}
use Rattle.text.proofs.Laws.{spells_none, spells_more, spells_fits}
use Rattle.text.proofs.read_digits.Goals.{Else-base-d}
use Rattle.text.proofs.read_digits.Goals as goal

-- the number with one digit more
fits : (c : Else-base-d) → c.loop-i.value * c.args.base + c.digit-d.result < 2 ^ 64
fits c = spells_fits _ _ _ _ _ _ c.requires.0 c.loop-i.invariant c.digit-d.ensures c.if-base-d.false (omega arith)

pub loop-i-init : goal.loop-i-init
loop-i-init c = spells_none _ _ _ c.requires.1

pub overflow_mul-value : goal.overflow_mul-value
overflow_mul-value c = let k = fits (goal.at.overflow_mul-value c).Else-base-d in omega arith

pub overflow_add-value : goal.overflow_add-value
overflow_add-value c = let k = fits (goal.at.overflow_add-value c).Else-base-d in omega arith

pub loop-i-preserved : goal.loop-i-preserved
loop-i-preserved c = spells_more _ _ _ _ _ _ c.requires.0 c.loop-i.invariant c.digit-d.ensures c.if-base-d.false (omega arith) (omega arith)
