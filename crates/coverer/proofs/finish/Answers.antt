-- `coverer::finish` meets its contract.
use mathlib.Core.Path.{refl, ap, ◌∙◌}
use Prim.Native.Nat.{◌+◌}
use Rattle.run.specs.Run.{queue_words, memory_words}
use Rattle.coverer.specs.Coverer.{cleared}
use Rattle.coverer.proofs.finish.Goals as goal

pub returns : goal.returns
returns c = (refl, c.clear-2.ensures ∙ ap (cleared (queue_words + _) memory_words) c.clear.ensures)
