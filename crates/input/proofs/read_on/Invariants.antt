-- `input::read_on`: the bytes read so far have no newline, and the buffer keeps its length.
use mathlib.Core.Path.{◌≡◌}
use Prim.Native.Nat.{◌-◌, ◌≤◌}
use lib.ListN.{length, take}
use Rattle.input.specs.Feed.{Held}
use Rattle.input.proofs.read_on.Given as goal

abbrev pub invariant-loop-filled : goal.invariant-loop-filled
invariant-loop-filled l = (length l.buf ≡ length l.initial.buf) × (l.filled ≤ length l.initial.buf) × Held (take l.held l.initial.buf) l.filled l.buf

abbrev pub decreases-loop-filled : goal.decreases-loop-filled
decreases-loop-filled l = length l.initial.buf - l.filled
