-- `sets::is_short`: case by case.
use mathlib.Core.Logic.{⊎_elim}
use Rattle.sets.specs.Steps.{is_short}
use Rattle.sets.proofs.is_short.Goals as goal

pub returns-in-Union : goal.returns-in-Union
unfolding is_short
returns-in-Union c = ⊎_elim (λ e. rw e) (λ e. rw e) c.in-Union.is

pub returns-in-Difference : goal.returns-in-Difference
unfolding is_short
returns-in-Difference c = rw c.in-Difference.is
