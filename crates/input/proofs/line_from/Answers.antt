-- `input::line_from`: the unread bytes have a newline, or they are the first of a line of which more is read.
use mathlib.Core.Path.{◌≡◌, sym, ap, ◌∙◌}
use mathlib.Core.List.{List}
use Prim.Native.Nat.{ℕ, ◌-◌, ◌≤◌}
use native.Mathlib.Omega.{arith}
use native.Mathlib.Nat.{sub-zero}
use borrow.Author.Rules.{rules}
use Rattle.std.specs.List.{copy_within}
use Rattle.std.proofs.Common.{None}
use lib.ListN.{length, take}
use Rattle.input.specs.Feed.{between, line_end}
use Rattle.input.proofs.Feeding.{newline_none, moved_front}
use Rattle.input.proofs.line_from.Goals as goal

moved : (from to : ℕ) (l l' : List ℕ) → from ≤ to → to ≤ length l → l' ≡ copy_within l from to 0 → take (to - from) l' ≡ between from to l
moved from to l l' h g e = ap (take (to - from)) e ∙ moved_front from to l h g

pub read_on-requires : goal.read_on-requires
read_on-requires c =
    let z = c.requires in
    let m = moved _ _ _ _ z.0.order z.0.inside c.copy_within.ensures.after in
    let e = newline_none _ _ _ z.0.order z.0.inside (sym c.in-None.is ∙ z.1) in
    (search rules, rw (sub-zero, m) (omega (arith, e)))

pub returns-in-None : goal.returns-in-None
returns-in-None c =
    let z = c.requires in
    let m = moved _ _ _ _ z.0.order z.0.inside c.copy_within.ensures.after in
    let e = newline_none _ _ _ z.0.order z.0.inside (sym c.in-None.is ∙ z.1) in
    (search rules, record { there = λ l. absurd (omega (arith, e)); later = λ _. rw m at c.read_on.ensures.1 })
