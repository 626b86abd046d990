-- The invariant of `plain::least`: the best so far is the least of the places looked at.
use mathlib.Core.Path.{◌≡◌}
use Prim.Native.Nat.{◌-◌, ◌<◌}
use Rattle.plain.specs.Plain.{least_r}
use Rattle.plain.proofs.least.Given as goal

abbrev pub invariant-loop-i : goal.invariant-loop-i
invariant-loop-i l = record { found : l.best < l.i; is : l.best ≡ least_r l.m (l.i - 1) }
