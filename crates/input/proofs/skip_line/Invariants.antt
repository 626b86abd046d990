-- `input::skip_line`: the buffer keeps its length, and what is unread begins after a newline of what was read last.
use mathlib.Core.Path.{◌≡◌}
use Prim.Native.Nat.{◌-◌}
use lib.ListN.{length}
use Rattle.input.proofs.skip_line.Given as goal

abbrev pub invariant-loop : goal.invariant-loop
invariant-loop l = length l.buf ≡ length l.initial.buf

abbrev pub decreases-loop : goal.decreases-loop
decreases-loop l = 0xffff_ffff_ffff_ffff - l.counter
