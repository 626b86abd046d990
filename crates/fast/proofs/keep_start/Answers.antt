-- `fast::keep_start` meets its contract: the definition's outcomes, one after another. Assumes nothing.
use mathlib.Core.Path.{sym, ◌∙◌}
use mathlib.Core.Logic.{inl, inr}
use Rattle.cellid.proofs.Laws.{cell_pos}
use Rattle.cellunion.proofs.Runs.{head_pos}
use Rattle.fast.proofs.StartTurns.{start_skip, start_swap, Free, start_push}
use Rattle.fast.proofs.keep_start.Goals.{then-k-gt0+else-contains+else-contains-2, else-k-gt0}
use Rattle.fast.proofs.keep_start.Goals as goal

pub contains-requires : goal.contains-requires
contains-requires c = head_pos _ _ c.requires.1 c.if-k-gt0.true

pub returns-then-contains : goal.returns-then-contains
returns-then-contains c = start_skip _ _ _ c.if-k-gt0.true (sym c.contains.ensures ∙ c.if-contains.true)

pub contains-requires-then-k-gt0 : goal.contains-requires-then-k-gt0
contains-requires-then-k-gt0 c = cell_pos _ _ _ c.requires.2.2

pub returns-then-contains-2 : goal.returns-then-contains-2
returns-then-contains-2 c =
    start_swap _ _ _ c.requires.0 c.if-k-gt0.true (sym c.contains.ensures ∙ c.if-contains.false) (sym c.contains-then-k-gt0.ensures ∙ c.if-contains-2.true)

pub returns : goal.returns
returns c =
    let f : Free c.args.mem.now c.args.k c.args.id = elim c.if-k-gt0.branch [
      | then-k-gt0+else-contains+else-contains-2 w ↦
          inr (w.if-k-gt0.true, sym w.contains.ensures ∙ w.if-contains.false, sym w.contains-then-k-gt0.ensures ∙ w.if-contains-2.false)
      | else-k-gt0 w ↦ inl w.if-k-gt0.false
    ] in
    start_push _ _ _ c.requires.0 f
