-- `requests::line::read_options`: the options that are read from here on are those of all.
use Rattle.std.proofs.Common.{◌≡◌, ◌-◌}
use Rattle.requests.specs.Line.{options_from, no_options}
use Rattle.requests.proofs.line.read_options.Given as goal

abbrev pub invariant-loop : goal.invariant-loop
invariant-loop l = options_from 7 l.line l.at no_options ≡ options_from (7 - l.counter) l.line l.after l.value
