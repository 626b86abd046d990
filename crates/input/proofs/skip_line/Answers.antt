use native.Mathlib.Omega.{arith}
use borrow.Author.Rules.{rules}
use Rattle.input.specs.Feed.{passed}
use Rattle.input.proofs.Feeding.{newline_some, ready_long}
use Rattle.input.proofs.skip_line.Goals as goal

pub returns-in-Some : goal.returns-in-Some
returns-in-Some c =
    let n = newline_some 0 c.in-Ok.filled _ _ (omega arith) c.in-Some.ensures in
    (rw c.too_long-in-Some.ensures (ready_long _ _ _ (omega (arith, n.1)) (search rules)), passed _ _ n.0 n.1 c.too_long-in-Some.ensures)
