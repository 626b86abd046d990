-- `text::read_numbers`: the numbers that stand there with those that are to come are all.
use Rattle.std.proofs.Common.{◌≡◌, ◌-◌, ◌++◌, length, take}
use Rattle.text.specs.Text.{numbers_after}
use Rattle.text.proofs.read_numbers.Given as goal

abbrev pub invariant-loop-i : goal.invariant-loop-i
invariant-loop-i l =
    let all = numbers_after l.base (length l.values) l.line l.at in
    let rest = numbers_after l.base (length l.values - l.i) l.line l.after in
    record { values : take l.i l.values ++ rest.values ≡ all.values; after : rest.after ≡ all.after }
