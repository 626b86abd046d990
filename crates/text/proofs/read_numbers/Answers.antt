-- `text::read_numbers`: a number more, a fault, or none is left.
use Rattle.std.proofs.Common.{arith}
use Rattle.text.proofs.Laws.{filling_more, filling_fault, filling_end}
use Rattle.text.proofs.read_numbers.Goals as goal

pub returns-in-Err : goal.returns-in-Err
returns-in-Err c =
    rw (← c.loop-i.auto.values) (filling_fault _ _ _ _ _ _ c.loop-i.invariant.values c.loop-i.invariant.after c.in-Err.fault (omega arith) c.in-Err.ensures.value c.fill.new.self (c.fill.ensures.after (λ y h. h)))

pub loop-i-preserved : goal.loop-i-preserved
loop-i-preserved c =
    let f = filling_more _ _ _ _ _ _ c.loop-i.invariant.values c.loop-i.invariant.after c.in-Ok.n (omega arith) c.in-Ok.ensures.value in
    record { values = f.0; after = f.1 }

pub returns : goal.returns
returns c = rw (← c.loop-i.auto.values) (filling_end _ _ _ _ _ _ c.loop-i.invariant.values c.loop-i.invariant.after (omega arith))
