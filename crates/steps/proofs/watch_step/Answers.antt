-- `steps::watch_step`: where the run stands, the output had room for what is told of it.
use mathlib.Core.Path.{sym, ◌∙◌}
use native.Mathlib.Omega.{arith}
use Rattle.covering.proofs.Watching.{watched_room}
use Rattle.steps.proofs.watch_step.Goals as goal

pub show-requires : goal.show-requires
show-requires c = let w = c.watch in omega (arith, w.auto.out, watched_room _ _ _ _ _ (sym c.in-Ok.is ∙ w.ensures.answer))
