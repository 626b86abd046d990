-- `text::value`: the number so far, with the digits left, is the whole number; it is within the limit.
use Rattle.std.proofs.Common.{◌≡◌, ◌≤◌, drop}
use Rattle.text.specs.Text.{value_from}
use Rattle.text.proofs.value.Given as goal

abbrev pub invariant-loop-b : goal.invariant-loop-b
invariant-loop-b l = record {
  within : l.number ≤ l.limit;
  whole : value_from l.base 0 l.s ≡ value_from l.base l.number (drop l.b-index l.s);
}
