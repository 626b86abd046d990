-- `Job::use_taken` meets its contract.
use Rattle.coverer.proofs.Adds.{domain}
use Rattle.coverer.proofs.Steps.{taken_full, taken_handed, taken_kept}
use native.Mathlib.Omega.{arith}
use Rattle.coverer.proofs.Job.use_taken.Goals as goal

pub returns-then-is_full : goal.returns-then-is_full
returns-then-is_full c = taken_full _ _ (domain _ _ c.args.self.asking.asks) _ _ (omega arith) _ c.is_full.ensures _ _ c.if-is_full.true

pub hand_on-requires : goal.hand_on-requires
hand_on-requires c =
    record {
      taken = c.requires.taken;
      children_value = c.count-children.ensures.value;
      aside_fits = c.requires.aside_fits;
    }

pub returns-then-is_handed_on : goal.returns-then-is_handed_on
returns-then-is_handed_on c =
    taken_handed _ _ (domain _ _ c.args.self.asking.asks) _ _ (omega arith) _ c.is_full.ensures _ c.requires.taken _ c.count-children.ensures.value _ c.is_handed_on.ensures c.if-is_full.false _ _ c.if-is_handed_on.true c.hand_on.ensures

pub returns-else-is_handed_on : goal.returns-else-is_handed_on
returns-else-is_handed_on c =
    taken_kept _ _ (domain _ _ c.args.self.asking.asks) _ _ (omega arith) _ c.is_full.ensures _ c.requires.taken _ c.count-children.ensures.value _ c.is_handed_on.ensures c.if-is_full.false _ _ c.if-is_handed_on.false (c.keep.ensures.does _ _ _)
