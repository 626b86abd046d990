-- `text::is_silent`: by where its blanks end, and by its first byte.
use Rattle.std.proofs.Common.{◌≡◌, ◌≤◌, true, false, length, get_or, eqb, sym, ◌∙◌, arith, eq-eqb, ne_eqb}
use mathlib.Core.Bool.{true≢false}
use Rattle.text.proofs.Laws.{silent_is}
use Rattle.text.proofs.is_silent.Goals.{then-start-line, else-start-line}
use Rattle.text.proofs.is_silent.Goals as goal

pub returns-then-line-eq35 : goal.returns-then-line-eq35
returns-then-line-eq35 c =
    let line = c.args.line.now in
    let start = c.past-start.result in
    let within : start ≤ length line = omega arith in
    rw (silent_is line start c.past-start.ensures.0 within) (elim c.if-start-line.branch [
      | then-start-line w ↦ rw (eq-eqb start (length line) w.if-start-line.true) c.all_plain.ensures
      | else-start-line w ↦
          let first : eqb (get_or line 0 0) 35 ≡ true = sym w.value-is ∙ c.if-line-eq35.true in
          rw (ne_eqb start (length line) w.if-start-line.false, first) c.all_plain.ensures
    ])

pub returns-else-line-eq35 : goal.returns-else-line-eq35
returns-else-line-eq35 c =
    let line = c.args.line.now in
    let start = c.past-start.result in
    let within : start ≤ length line = omega arith in
    rw (silent_is line start c.past-start.ensures.0 within) (elim c.if-start-line.branch [
      | then-start-line w ↦ absurd (true≢false (sym (eq-eqb start (length line) w.if-start-line.true) ∙ sym w.value-is ∙ c.if-line-eq35.false))
      | else-start-line w ↦
          let first : eqb (get_or line 0 0) 35 ≡ false = sym w.value-is ∙ c.if-line-eq35.false in
          rw (ne_eqb start (length line) w.if-start-line.false, first) c.if-line-eq35.false
    ])
