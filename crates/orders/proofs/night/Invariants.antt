-- `orders::night`: where the loop stands: the orders before the one at hand are served, and the rest are to come.
use Rattle.orders.proofs.Laws.{Turn}
use Rattle.orders.proofs.night.Given as goal

abbrev pub invariant-loop-order : goal.invariant-loop-order
invariant-loop-order l = Turn l.initial.orders l.initial.mem l.initial.out l.order-index l.used l.orders l.mem l.out
