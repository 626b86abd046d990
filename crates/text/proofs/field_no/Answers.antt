-- `text::field_no`: one field less for each that is passed.
use Rattle.std.proofs.Common.{◌≡◌, suc, ◌+◌, ◌-◌, sym, ◌∙◌, arith}
use Rattle.text.proofs.Laws.{field_more, field_last}
use Rattle.text.proofs.field_no.Goals as goal

pub returns-in_err-at-clause-value : goal.returns-in_err-at-clause-value
returns-in_err-at-clause-value c =
    let k : c.args.k - c.loop.counter ≡ suc (c.args.k - (c.loop.counter + 1)) = omega arith in
    let e = rw (k, field_more, ← c.in_err-at.ensures.value) at c.loop.invariant in
    rw c.from_residual.ensures (sym e)

pub loop-preserved : goal.loop-preserved
loop-preserved c =
    let k : c.args.k - c.loop.counter ≡ suc (c.args.k - (c.loop.counter + 1)) = omega arith in
    rw (k, field_more, ← c.in_ok-at.ensures.value) at c.loop.invariant

pub returns-clause-value : goal.returns-clause-value
returns-clause-value c = c.read_field-2.ensures.value ∙ sym (c.loop.invariant ∙ field_last _ _ _ (omega arith))
