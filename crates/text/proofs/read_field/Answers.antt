-- `text::read_field`: past the blanks, then past what is none.
use Rattle.std.proofs.Common.{rules}
use Rattle.text.specs.Text.{start_at, end_at, field_at}
use Rattle.text.proofs.read_field.Goals as goal

pub returns-then-start-end-clause-value : goal.returns-then-start-end-clause-value
unfolding field_at start_at end_at
returns-then-start-end-clause-value c = search rules

pub returns-else-start-end-clause-value : goal.returns-else-start-end-clause-value
unfolding field_at start_at end_at
returns-else-start-end-clause-value c = search rules
