-- `orders::night`: an order is served, its answer is written, and the next stands.
use mathlib.Core.Path.{ap}
use native.Mathlib.Omega.{arith}
use Rattle.orders.specs.declared.Order.{Order}
use Rattle.orders.proofs.Laws.{night_refused, fits_after, next, ending}
use Rattle.orders.proofs.night.Goals as goal

pub returns-then-orders-gt-NIGHT_MOST : goal.returns-then-orders-gt-NIGHT_MOST
returns-then-orders-gt-NIGHT_MOST c = night_refused _ _ _ c.if-orders-gt-NIGHT_MOST.true

pub overflow_add-used : goal.overflow_add-used
overflow_add-used c = omega (arith, c.serve-a.auto.out, fits_after c.loop-order.invariant c.loop-order-test.true _ _ _ _ c.serve-a.ensures, ap (λ (o : Order). o.count) c.write_answer.ensures)

pub loop-order-preserved : goal.loop-order-preserved
loop-order-preserved c = rw c.write_answer.ensures (next c.loop-order.invariant c.loop-order-test.true _ _ _ _ c.serve-a.ensures (omega (arith, c.serve-a.auto.out)))

pub returns : goal.returns
returns c = ending c.loop-order.invariant c.if-orders-gt-NIGHT_MOST.false (omega (arith, c.loop-order-test.false))
