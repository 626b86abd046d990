-- `coverer::keep` meets its contract.
use Rattle.coverer.proofs.Stands.{keeps, keeps_not}
use Rattle.coverer.specs.Engine.{AsideUpTo}
use native.Mathlib.Omega.{arith}
use Rattle.coverer.proofs.keep.Goals as goal

pub returns-then-t-lt-RAW_MOST : goal.returns-then-t-lt-RAW_MOST
unfolding AsideUpTo
returns-then-t-lt-RAW_MOST c = record {
  does = λ e T i. keeps e T i _ _ _ (omega arith) (omega (arith, c.if-t-lt-RAW_MOST.true));
  aside_up_to = omega arith;
}

pub returns-else-t-lt-RAW_MOST : goal.returns-else-t-lt-RAW_MOST
unfolding AsideUpTo
returns-else-t-lt-RAW_MOST c = record {
  does = λ e T i. keeps_not e T i _ _ _ (omega arith) (omega (arith, c.if-t-lt-RAW_MOST.false));
  aside_up_to = tt;
}
