-- `Order::serve` meets its contract: the part of the output from `used` on was lent whole, and is laid back. Assumes nothing.
use Rattle.orders.proofs.Laws.{served_is}
use Rattle.orders.proofs.Order.serve.Goals as goal

pub returns : goal.returns
returns c = served_is c.args.self c.args.used _ _ c.args.out.now _ _ _ _ c.kind-kind.ensures c.region-region.ensures c.respond.ensures
