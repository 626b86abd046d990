-- `coverer::enqueue` meets its contract.
use Rattle.coverer.proofs.Stands.{queues, queues_not}
use Rattle.coverer.specs.Engine.{AsideUpTo}
use native.Mathlib.Omega.{arith}
use Rattle.coverer.proofs.enqueue.Goals as goal

pub returns-then-t-lt-QUEUE_MOST : goal.returns-then-t-lt-QUEUE_MOST
unfolding AsideUpTo
returns-then-t-lt-QUEUE_MOST c = record {
  does = λ T i some placed er. queues _ T i some placed _ _ _ _ (omega arith) (omega (arith, c.if-t-lt-QUEUE_MOST.true)) er c.add.ensures;
  aside_up_to = omega arith;
}

pub returns-else-t-lt-QUEUE_MOST : goal.returns-else-t-lt-QUEUE_MOST
unfolding AsideUpTo
returns-else-t-lt-QUEUE_MOST c = record {
  does = λ T i some placed er. queues_not _ T i _ _ _ (omega (arith, c.if-t-lt-QUEUE_MOST.false));
  aside_up_to = tt;
}
