-- `coverer::run` meets its contract.
use Rattle.coverer.proofs.Answers.{answer_room, answer_refused, answer_spent, answer_done, whole}
use Rattle.coverer.specs.Coverer.{outcome_of}
use Rattle.std.specs.Prelude.Result.{Ok}
use mathlib.Core.Path.{refl, ap}
use Prim.Native.Nat.{◌≤◌}
use lib.ListN.{length}
use Rattle.run.specs.Run.{memory_words}
use native.Mathlib.Omega.{arith}
use Rattle.coverer.proofs.run.Goals as goal

pub finish-requires : goal.finish-requires
finish-requires c =
    answer_room _ _ _ _ _ _ _ c.in-Ok.ensures _ refl

-- the allowance is used up
pub returns-then-t-gt0 : goal.returns-then-t-gt0
unfolding outcome_of
returns-then-t-gt0 c = let r = answer_spent _ _ _ _ _ _ _ c.in-Ok.ensures _ refl _ _ c.if-t-gt0.true c.refuse-then-t-gt0.ensures in record { value = r.0; mem_after = whole _ c.args.mem.now _ _ c.in-Some.ensures.cases.same r.1 }

-- 7 or 8
pub returns-in-Err : goal.returns-in-Err
unfolding outcome_of
returns-in-Err c = let r = answer_refused _ _ _ _ _ _ _ c.in-Err.ensures _ _ _ refl c.refuse.ensures in record { value = r.0; mem_after = whole _ c.args.mem.now _ _ c.in-Some.ensures.cases.same r.1 }

pub returns-else-t-gt0 : goal.returns-else-t-gt0
unfolding outcome_of
returns-else-t-gt0 c =
    let long : memory_words ≤ length c.covering_internal.new.m = omega arith in
    let r = answer_done _ _ _ _ _ _ _ c.in-Ok.ensures _ refl _ _ long c.if-t-gt0.false (ap Ok c.finish.ensures.0, c.finish.ensures.1) in record { value = r.0; mem_after = whole _ c.args.mem.now _ _ c.in-Some.ensures.cases.same r.1 }
