-- `coverer::watch` meets its contract: the run's first steps, and what is told of the state that they come to.
use Rattle.coverer.proofs.Watching.{watch_few, watch_refused, watch_told}
use mathlib.Core.Path.{ap, ◌∙◌}
use Rattle.run.specs.Run.{memory_words}
use Rattle.coverer.proofs.Memory.{front_cleared}
use Rattle.coverer.specs.Coverer.{cleared}
use Rattle.coverer.proofs.watch.Goals as goal
use Rattle.coverer.proofs.watch.Goals.{in-Err, in-Ok}

pub tell-seen-requires : goal.tell-seen-requires
tell-seen-requires c =
    let P = c.requires in
    let few = watch_few _ _ _ _ _ _ _ c.covering_internal.ensures _ c.in-Ok.is in
    few

pub returns : goal.returns
returns c = elim c.match-covering_internal.branch [
  | in-Err w ↦
      let a = watch_refused _ _ _ _ _ _ _ c.covering_internal.ensures _ c.args.out.now _ w.in-Err.is (c.clear.ensures ∙ ap (cleared 0 memory_words) w.m-is) in
      record { value = w.seen-is ∙ a.0; out_after = w.out-is ∙ a.1; mem_after = front_cleared memory_words c.args.mem.now _ _ c.in-Some.ensures.cases.same a.2 }
  | in-Ok w ↦
      let t = w.tell-seen in
      let a = watch_told _ _ _ _ _ _ _ c.covering_internal.ensures _ w.in-Ok.is _ _ _ _ _ t.ensures.value t.ensures.m_unchanged (c.clear.ensures ∙ ap (cleared 0 memory_words) w.m-is) in
      record { value = w.seen-is ∙ a.0; out_after = w.out-is ∙ a.1; mem_after = front_cleared memory_words c.args.mem.now _ _ c.in-Some.ensures.cases.same a.2 }
]
