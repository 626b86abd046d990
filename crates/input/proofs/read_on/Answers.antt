use mathlib.Core.Path.{sym, ◌∙◌}
use native.Mathlib.Omega.{arith}
use borrow.Author.Rules.{rules}
use Rattle.input.specs.Feed.{ended, last, none}
use Rattle.input.proofs.Feeding.{newline_some, newline_none, held_kept, begins_on, end_on, ready_line, ready_last}
use Rattle.input.proofs.read_on.Goals as goal

pub returns-then-more-filled : goal.returns-then-more-filled
returns-then-more-filled c = (rw c.last_line.ensures (ready_last _ _ (search rules)), last _ (held_kept c.in-Ok.ensures.kept c.loop-filled.invariant.2) c.last_line.ensures)

pub returns-in-Some : goal.returns-in-Some
returns-in-Some c =
    let h = held_kept c.in-Ok.ensures.kept c.loop-filled.invariant.2 in
    let n = newline_some _ _ _ _ c.in-Ok.ensures.bound.0 c.in-Some.ensures in
    let e = n.0 ∙ end_on _ c.in-Ok.ensures.bound.0 h (search rules) in
    (rw c.line_to.ensures (ready_line _ _ _ _ (omega arith) n.1 (search rules)), ended _ _ e n.1 (begins_on _ (omega (arith, n.0)) h) c.line_to.ensures)

pub loop-filled-preserved : goal.loop-filled-preserved
loop-filled-preserved c =
    let h = held_kept c.in-Ok.ensures.kept c.loop-filled.invariant.2 in
    let e = sym (newline_none _ _ _ c.in-Ok.ensures.bound.0 (search rules) c.in_default-newline.ensures) ∙ end_on _ c.in-Ok.ensures.bound.0 h (search rules) in
    (search rules, search rules, record { begins = begins_on _ c.in-Ok.ensures.bound.0 h; unended = e })

pub returns : goal.returns
returns c = (search rules, none c.skip_line.ensures.1)
