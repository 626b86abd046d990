-- `tokens::read_line`: digits, and what follows them.
use mathlib.Core.Path.{refl, sym, ◌∙◌}
use native.Mathlib.Omega.{arith}
use Rattle.tokens.proofs.Lines.{line_ended, line_none, line_open, line_other}
use Rattle.tokens.proofs.read_line.Goals as goal
use Rattle.tokens.proofs.read_line.Goals.{else-end-text-via-then-end-text+else-text-end-eq10, else-end-text-via-else-end-text}

pub overflow_sub-end : goal.overflow_sub-end
overflow_sub-end c = omega (arith, c.read_digits-name.ensures.0.order)

pub of_digits-requires : goal.of_digits-requires
of_digits-requires c = (omega (arith, c.read_digits-name.ensures.0.few), c.read_digits-name.ensures.0.size)

pub returns-then-text-end-eq10 : goal.returns-then-text-end-eq10
returns-then-text-end-eq10 c = line_ended _ _ _ _ _ c.read_digits-name.ensures.0 _ _ c.if-end-text.true c.if-text-end-eq10.true (sym c.in_ok-id.was ∙ c.of_digits.ensures) refl

pub returns-in_err-id : goal.returns-in_err-id
returns-in_err-id c = rw c.from_residual.ensures (line_none _ _ _ _ _ c.read_digits-name.ensures.0 c.if-end-text.true c.if-text-end-eq10.true (sym c.in_err-id.was ∙ c.of_digits.ensures))

pub returns : goal.returns
returns c = elim c.else-end-text.branch [
  | else-end-text-via-then-end-text+else-text-end-eq10 w ↦ line_other _ _ _ _ _ c.read_digits-name.ensures.0 c.read_digits-name.ensures.1 w.if-end-text.true w.if-text-end-eq10.false
  | else-end-text-via-else-end-text w ↦ line_open _ _ _ _ _ c.read_digits-name.ensures.0 c.requires w.if-end-text.false
]
