-- `requests::line::read_options`: an option more, or a fault.
use Rattle.std.proofs.Common.{◌≡◌, suc, ◌+◌, ◌-◌, sym, ◌∙◌, arith}
use Rattle.std.proofs.lemmas.Result.{err_from_is_err_and}
use Rattle.requests.specs.Line.{options_after}
use Rattle.requests.proofs.Reading.{options_more}
use Rattle.requests.proofs.line.read_options.Goals as goal

pub returns-in_err-value : goal.returns-in_err-value
unfolding options_after
returns-in_err-value c =
    let k : 7 - c.loop.counter ≡ suc (7 - (c.loop.counter + 1)) = omega arith in
    let e = c.loop.invariant ∙ options_more _ _ _ c.loop.after c.loop.value c.in-Some.field k c.in-Some.ensures.value in
    let p = err_from_is_err_and c.from_residual.result c.from_residual.ensures.1 in
    let d = rw (← c.in_err-value.ensures) at e in
    rw (p.1, p.2) (sym d)

pub loop-preserved : goal.loop-preserved
loop-preserved c =
    let k : 7 - c.loop.counter ≡ suc (7 - (c.loop.counter + 1)) = omega arith in
    let e = c.loop.invariant ∙ options_more _ _ _ c.loop.after c.loop.value c.in-Some.field k c.in-Some.ensures.value in
    rw (← c.in_ok-value.ensures) at e
