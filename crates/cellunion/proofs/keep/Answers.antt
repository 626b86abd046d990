use mathlib.Core.Path.{sym, ◌∙◌}
use mathlib.Core.Logic.{inl, inr}
use native.Mathlib.Omega.{arith}
use Rattle.cellid.proofs.Laws.{cell_pos}
use Rattle.cellunion.proofs.Runs.{HeadFree, head_pos, keep_skip, keep_topped, keep_done}
use Rattle.cellunion.proofs.keep.Goals.{else-k-gt0-via-then-k-gt0+else-contains, else-k-gt0-via-else-k-gt0}
use Rattle.cellunion.proofs.keep.Goals as goal

pub contains-requires : goal.contains-requires
contains-requires c = head_pos _ _ c.requires.1.stack.cells c.if-k-gt0.true

pub returns-then-contains : goal.returns-then-contains
returns-then-contains c = keep_skip _ _ _ _ c.if-k-gt0.true c.contains.ensures c.if-contains.true

pub clear_of-left-requires : goal.clear_of-left-requires
clear_of-left-requires c = (omega (arith, c.requires.0), cell_pos _ _ _ c.requires.1.cell.2)

pub collapse-requires : goal.collapse-requires
collapse-requires c =
    let f : HeadFree c.args.mem.now c.args.k c.args.c = elim c.else-k-gt0.branch [
      | else-k-gt0-via-then-k-gt0+else-contains w ↦ inr (w.if-k-gt0.true, sym w.contains.ensures ∙ w.if-contains.false)
      | else-k-gt0-via-else-k-gt0 w ↦ inl w.if-k-gt0.false
    ] in
    keep_topped _ _ _ _ c.requires.0 c.requires.1 f c.clear_of-left.ensures.0 c.clear_of-left.ensures.1

pub returns : goal.returns
returns c =
    let f : HeadFree c.args.mem.now c.args.k c.args.c = elim c.else-k-gt0.branch [
      | else-k-gt0-via-then-k-gt0+else-contains w ↦ inr (w.if-k-gt0.true, sym w.contains.ensures ∙ w.if-contains.false)
      | else-k-gt0-via-else-k-gt0 w ↦ inl w.if-k-gt0.false
    ] in
    keep_done _ _ _ _ _ _ f c.clear_of-left.ensures.0 c.clear_of-left.ensures.1 c.collapse.ensures
