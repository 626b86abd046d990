-- `Job::add_child` meets its contract.
use Rattle.coverer.proofs.Adds.{domain, child_none, child_full, child_added, child_id, child_ok, leaves_there}
use Rattle.coverer.proofs.Stands.{up_to}
use Rattle.coverer.specs.Engine.{AsideUpTo}
use mathlib.Core.Path.{sym, ◌∙◌}
use native.Mathlib.Omega.{arith}
use Rattle.coverer.proofs.Job.add_child.Goals as goal

pub overflow_mul-j-else-is_full : goal.overflow_mul-j-else-is_full
overflow_mul-j-else-is_full c =
    let e = sym c.is_in.ensures ∙ c.if-is_in.true in
    omega (arith, child_id _ _ _ e c.requires.all)

pub overflow_add-b : goal.overflow_add-b
overflow_add-b c =
    let e = sym c.is_in.ensures ∙ c.if-is_in.true in
    omega (arith, child_id _ _ _ e c.requires.all)

pub add_candidate-requires : goal.add_candidate-requires
add_candidate-requires c =
    let e = sym c.is_in.ensures ∙ c.if-is_in.true in
    record {
      from_lt_places_most = c.requires.j_bound.1;
      child_ok = child_ok _ _ _ _ e c.is_in-ends.ensures c.requires.all;
      aside_fits = omega (arith, leaves_there c.args.b c.args.j e, c.requires.aside_fits);
    }

pub returns-then-is_full : goal.returns-then-is_full
unfolding AsideUpTo
returns-then-is_full c =
    let e = sym c.is_in.ensures ∙ c.if-is_in.true in
    record {
      does = child_full _ _ (domain _ _ c.args.self.asking.asks) _ _ _ _ _ _ (omega arith) e c.is_full.ensures c.if-is_full.true;
      aside_up_to = omega arith;
    }

pub returns-else-is_full : goal.returns-else-is_full
returns-else-is_full c =
    let e = sym c.is_in.ensures ∙ c.if-is_in.true in
    record {
      does = child_added _ _ (domain _ _ c.args.self.asking.asks) _ _ _ _ _ _ _ _ _ (omega arith) e c.is_full.ensures c.if-is_full.false c.is_in-ends.ensures c.add_candidate.ensures.does;
      aside_up_to = up_to _ _ _ (omega (arith, leaves_there c.args.b c.args.j e)) c.add_candidate.ensures.aside_up_to;
    }

pub returns-else-is_in : goal.returns-else-is_in
unfolding AsideUpTo
returns-else-is_in c =
    record {
      does = child_none _ _ (domain _ _ c.args.self.asking.asks) _ _ _ _ _ (sym c.is_in.ensures ∙ c.if-is_in.false);
      aside_up_to = omega arith;
    }
