-- `covering::lay_fast` meets its contract: the fast covering of the bound, and the words of a run cleared. Assumes nothing.
use mathlib.Core.Path.{refl, ap, ◌∙◌}
use native.Mathlib.Omega.{arith}
use Rattle.std.specs.Prelude.{Option, ℕ}
use Rattle.totals.specs.Totals.{no_totals}
use Rattle.run.specs.Run.{memory_words}
use Rattle.bars.proofs.Early.{early_none}
use Rattle.coverer.proofs.Memory.{cleared_front}
use Rattle.covering.specs.Covering.{answer_laid}
use Rattle.covering.proofs.Starts.{valid_domain, bound_past}
use Rattle.covering.proofs.Answers.{answered_as, answered_laid}
use Rattle.covering.proofs.lay_fast.Goals as goal

pub fast_covering-laid-requires : goal.fast_covering-laid-requires
fast_covering-laid-requires c =
    let v = early_none _ _ _ c.requires in
    (valid_domain _ _ _ v, v.region, v.long)

pub clear_front-requires : goal.clear_front-requires
clear_front-requires c = omega (arith, (early_none _ _ _ c.requires).long, c.fast_covering-laid.auto.mem)

pub returns : goal.returns
returns c =
    let v = early_none _ _ _ c.requires in
    answered_as refl (answered_laid _ _ _ 0 no_totals) (c.laid_answer.ensures ∙ ap (λ (w : Option ℕ). answer_laid w 0 no_totals) c.fast_covering-laid.ensures.value.0)
    (c.clear_front.ensures ∙ cleared_front memory_words _ _ (bound_past _ _ _ _ v.region v.long c.fast_covering-laid.auto.mem c.fast_covering-laid.ensures.mem_after)) c.fast_covering-laid.ensures.value.1
