use native.Mathlib.Nat.{lt_of_le_of_lt}
use mathlib.Core.Path.{refl}
use native.Mathlib.Omega.{arith}
use borrow.Author.Rules.{rules}
use Rattle.orders.specs.Nights.{places_of}
use Rattle.night.proofs.Laws.{begins_next, ends_within}
use Rattle.night.proofs.tell_night.Goals as goal

pub loop-order-init : goal.loop-order-init
unfolding places_of
loop-order-init c = (refl, omega arith)

pub tell_order-requires : goal.tell_order-requires
tell_order-requires c = (ends_within c.args.orders.now c.loop-order.order-index c.loop-order.begin _ c.loop-order-test.true c.loop-order.invariant.0 _ c.requires.0, omega arith)

pub overflow_add-begin : goal.overflow_add-begin
overflow_add-begin c = record { fits = lt_of_le_of_lt (ends_within c.args.orders.now c.loop-order.order-index c.loop-order.begin _ c.loop-order-test.true c.loop-order.invariant.0 _ c.requires.0) (search rules) }

pub loop-order-preserved : goal.loop-order-preserved
loop-order-preserved c = (begins_next c.args.orders.now c.loop-order.order-index c.loop-order.begin _ c.loop-order-test.true c.loop-order.invariant.0, omega arith)
