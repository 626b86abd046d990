-- `text::field_no`: the field counted from the present place is the field counted from the first.
use Rattle.std.proofs.Common.{◌≡◌, ◌-◌}
use Rattle.text.specs.Text.{field_no}
use Rattle.text.proofs.field_no.Given as goal

abbrev pub invariant-loop : goal.invariant-loop
invariant-loop l = field_no l.k l.line 0 ≡ field_no (l.k - l.counter) l.line l.at
